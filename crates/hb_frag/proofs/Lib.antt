pub mod Facts
pub mod Cuts
pub mod Clear
pub mod Carves
pub mod Normals
pub mod CarvedParts
