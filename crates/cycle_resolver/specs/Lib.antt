pub mod Needs
pub mod Order
pub mod Table
pub mod Unfold
pub mod Walk
