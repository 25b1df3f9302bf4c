pub mod Documents
pub mod Indexes
pub mod Database
pub mod Staying
pub mod Records
pub mod Items
pub mod Ids
pub mod Laws
