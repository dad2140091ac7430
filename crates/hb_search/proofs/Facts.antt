-- Lemmas on what this crate defines, which the crates above cite.
pub mod BeginsApart
pub mod OneOrder
pub mod OneSearch
pub mod StaysApart
