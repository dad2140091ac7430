-- Lemmas on what this crate defines, which the crates above cite.
pub mod AllowedDeeds
pub mod HeldLatches
pub mod LaterPages
pub mod NoPlace
pub mod OneLeaf
pub mod OneRecord
pub mod GivenPages
pub mod QueueParts
pub mod TakenJobs
