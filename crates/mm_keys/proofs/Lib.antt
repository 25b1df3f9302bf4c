pub mod Totals
pub mod Decided
pub mod Lengths
