pub mod Digits
pub mod Formatted
pub mod Places
pub mod Prefixes
pub mod Readings
pub mod Refusals
pub mod Widths
