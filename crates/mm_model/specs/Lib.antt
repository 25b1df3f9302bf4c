pub mod Database
pub mod Keyed
pub mod WellFormed
pub mod Commands
pub mod After
pub mod History
pub mod Laws
pub mod Examples
