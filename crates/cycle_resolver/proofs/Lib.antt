pub mod Counts
pub mod Tables
pub mod Times
pub mod Visits
pub mod Walking
pub mod Ways
