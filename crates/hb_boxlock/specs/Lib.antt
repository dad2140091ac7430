pub mod Locking
pub mod Slots
pub mod Laws
