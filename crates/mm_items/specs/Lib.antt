pub mod Next
pub mod Files
pub mod Given
