-- Lemmas on what this crate defines, which the crates above cite.
pub mod OnePosting
pub mod ParentWeights
