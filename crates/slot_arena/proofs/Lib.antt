pub mod Counts
pub mod Listing
pub mod Sorting
pub mod Sound
pub mod Things
pub mod Unheld
