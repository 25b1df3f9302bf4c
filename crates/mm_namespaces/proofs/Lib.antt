pub mod NodeBytes
pub mod Adds
pub mod SetUps
pub mod Apart
pub mod Dropped
pub mod DropCalls
