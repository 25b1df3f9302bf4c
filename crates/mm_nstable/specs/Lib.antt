pub mod Hash
pub mod Nodes
pub mod Table
pub mod Changes
pub mod FreeChain
