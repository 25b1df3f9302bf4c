pub mod Prefix
pub mod Chain
