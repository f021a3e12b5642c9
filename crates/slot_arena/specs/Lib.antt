pub mod SlabLends
pub mod SlabSlots
pub mod Slots
