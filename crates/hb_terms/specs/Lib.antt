pub mod Plans
pub mod Merging
