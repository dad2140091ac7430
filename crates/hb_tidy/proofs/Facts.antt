pub mod AddedCounts
pub mod Forced
pub mod Grown
pub mod Joined
