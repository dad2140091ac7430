pub mod Limits
pub mod Offsets
