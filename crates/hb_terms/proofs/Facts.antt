pub mod OneMerge
pub mod Owing
