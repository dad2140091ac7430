pub mod Frames
pub mod Pools
pub mod Slots
pub mod Kept
pub mod Laws
pub mod Editing
