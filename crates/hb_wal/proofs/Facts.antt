pub mod AreaBytes
pub mod FrameCounts
pub mod FrameHeads
pub mod Marks
