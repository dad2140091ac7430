pub mod Facts
pub mod SearchExamples
pub mod Sorted
pub mod LeafAhead
pub mod AskedSearches
pub mod SeenSearches
