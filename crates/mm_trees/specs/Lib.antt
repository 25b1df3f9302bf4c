pub mod Walked
pub mod Buckets
pub mod Kept
pub mod Asked
pub mod Costs
pub mod Roots
pub mod Indexes
pub mod Changes
