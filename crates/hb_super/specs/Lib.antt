pub mod Superblocks
pub mod Reading
pub mod Moments
