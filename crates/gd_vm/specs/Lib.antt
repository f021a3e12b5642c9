pub mod Ends
pub mod Parents
