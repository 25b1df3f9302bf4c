-- What the contracts of the adapters cite.
pub mod Names
