pub mod Calls
pub mod Fails
pub mod Files
pub mod Left
pub mod MemDisk
pub mod Streams
pub mod Traced
