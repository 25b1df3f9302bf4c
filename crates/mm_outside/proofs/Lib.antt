pub mod Places
pub mod Moments
pub mod LeavesRuns
pub mod Cuts
pub mod CleanPlaces
pub mod NewFile
mod Examples
