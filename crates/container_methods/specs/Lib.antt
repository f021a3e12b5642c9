pub mod Arrays
pub mod Dicts
