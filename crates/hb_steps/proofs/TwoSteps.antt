-- Two steps of one actor: what they say, and the machines to which they lead; steps that are turned aside.
pub mod Names
pub mod OneMerge
pub mod SinglePlaces
pub mod Aside
pub mod OnePiece
pub mod OneRow
pub mod RowSays
pub mod OnePair
pub mod OneStore
pub mod OneFetch
pub mod OneOutcome
