pub mod Bytes
pub mod Fields
pub mod Nulls
pub mod Places
pub mod Lists
pub mod Tables
pub mod Names
