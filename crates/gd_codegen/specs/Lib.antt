pub mod Lengths
pub mod MainClass
