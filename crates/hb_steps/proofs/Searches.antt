-- What a search has found while it walks is exact, and so is its reply.
pub mod Names
pub mod SortedRecords
pub mod Gathered
pub mod LeafRecords
pub mod SearchRow
pub mod GatheringKept
pub mod SearchKept
