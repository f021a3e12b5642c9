pub mod Holding
pub mod Matching
pub mod Starts
pub mod Subscripts
pub mod Tests
pub mod Trials
pub mod World
pub mod Writes
