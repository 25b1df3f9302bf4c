pub mod Fresh
pub mod Dropped
