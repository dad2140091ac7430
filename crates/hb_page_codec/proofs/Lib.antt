pub mod Facts
pub mod Spelled
pub mod TreeLaws
pub mod Writes
pub mod Decoded
pub mod ExactFields
