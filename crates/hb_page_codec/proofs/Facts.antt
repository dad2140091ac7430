pub mod LoopLaws
pub mod Fields
pub mod PageLaws
pub mod Refusals
pub mod Weights
pub mod Depth
pub mod Ordered
