pub mod Arguments
pub mod Items
pub mod Keys
pub mod Pairs
pub mod Ranges
