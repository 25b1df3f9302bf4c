pub mod Pairs
pub mod Layout
pub mod Rules
pub mod Order
pub mod Marks
