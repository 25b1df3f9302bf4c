pub mod Bytes
pub mod Overlay
pub mod Places
pub mod Room
pub mod Spans
pub mod Limits
