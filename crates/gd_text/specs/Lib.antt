pub mod Format
pub mod Number
pub mod Numerals
pub mod Pattern
pub mod Reading
pub mod Search
pub mod Text
