pub mod Ask
pub mod Crash
pub mod Fault
pub mod Image
pub mod Leaves
pub mod Place
pub mod Stream
pub mod Told
