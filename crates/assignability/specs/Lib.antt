pub mod Assign
pub mod Fits
