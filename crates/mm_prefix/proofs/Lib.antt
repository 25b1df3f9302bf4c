pub mod Keeping
pub mod Logging
pub mod Removing
pub mod Laws
