pub mod Walk
pub mod Linked
pub mod Listed
pub mod Questions
pub mod Tiles
