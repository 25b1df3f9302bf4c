pub mod Drafted
pub mod Loaded
