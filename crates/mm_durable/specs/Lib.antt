pub mod Names
pub mod Log
pub mod Own
pub mod Intake
pub mod Durable
pub mod Laws
pub mod Flushed
