-- Lemmas on what this crate defines, which the crates above cite.
pub mod RecordLeaves
pub mod ChosenCuts
pub mod OneCommand
pub mod DeletedRecords
pub mod RecordOps
