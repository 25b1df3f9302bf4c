pub mod Files
pub mod Made
pub mod State
pub mod Codes
pub mod Fresh
pub mod Held
