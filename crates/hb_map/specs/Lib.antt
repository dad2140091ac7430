pub mod Map
pub mod Mapping
pub mod Boxes
