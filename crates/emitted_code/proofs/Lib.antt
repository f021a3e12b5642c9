pub mod Computing
pub mod Runs
