pub mod Points
pub mod Boxes
pub mod Actors
