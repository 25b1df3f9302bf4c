pub mod Asking
pub mod Removing
pub mod MarkRead
