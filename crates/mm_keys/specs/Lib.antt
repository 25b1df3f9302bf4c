pub mod Specification
pub mod Key
pub mod KeyOrder
