pub mod Bench
pub mod Toy
