pub mod Nodes
pub mod Lists
pub mod Trees
pub mod Changes
pub mod Order
pub mod Listed
pub mod Removal
pub mod Costs
