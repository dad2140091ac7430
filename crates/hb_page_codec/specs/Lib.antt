pub mod Reading
pub mod ReadingFields
pub mod ReadingPages
pub mod Exact
pub mod Memory
pub mod Writing
pub mod Weight
