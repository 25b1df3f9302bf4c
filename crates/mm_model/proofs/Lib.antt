pub mod Settled
pub mod Stays
pub mod Documents
pub mod Kept
pub mod Counts
pub mod Histories
pub mod Found
pub mod Nodes
