pub mod Grammar
pub mod Written
pub mod Reading
pub mod Answer
pub mod Putting
