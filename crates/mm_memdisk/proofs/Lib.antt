pub mod Updates
mod Names
mod Writes
pub mod Torn
pub mod Steps
pub mod Leaving
