pub mod Distinct
pub mod Known
pub mod Places
pub mod Rising
