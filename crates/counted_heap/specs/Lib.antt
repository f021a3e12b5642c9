pub mod Heap
pub mod HeapLends
pub mod Thing
