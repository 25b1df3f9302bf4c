pub mod Limits
pub mod Loops
pub mod Apart
pub mod Found
pub mod Seals
