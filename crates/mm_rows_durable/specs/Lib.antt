pub mod Toy
pub mod Sides
pub mod Benches
pub mod Closings
