pub mod Counts
pub mod KnownLemmas
pub mod Facts
