pub mod Facts
mod Waiting
mod Kept
mod Forces
mod HeadBytes
mod AreaReads
mod AreaZeros
mod FrameSplits
