pub mod Faults
pub mod Fixing
pub mod Literals
pub mod Operations
pub mod Reading
pub mod Things
