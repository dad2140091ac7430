pub mod Frames
pub mod Log
pub mod Forces
pub mod Kept
pub mod Reading
