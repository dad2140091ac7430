pub mod Facts
pub mod Places
pub mod Keeping
pub mod Sharing
