pub mod Next
pub mod Sections
pub mod Given
