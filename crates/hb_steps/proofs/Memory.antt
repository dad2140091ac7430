-- What comes into memory and leaves it, what an operation makes of the pages there, and which pages a step changes.
pub mod Names
pub mod NextNumbers
pub mod BroughtPages
pub mod CommitPages
pub mod OwnedOps
pub mod OwnPages
pub mod NeededPages
pub mod Moments
pub mod KeptPages
pub mod ToldStays
pub mod MetaKept
