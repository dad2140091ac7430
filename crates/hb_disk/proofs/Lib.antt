pub mod Facts
pub mod Gate
pub mod InOrder
pub mod Histories
pub mod MemDisks
pub mod Overwriting
pub mod Picked
