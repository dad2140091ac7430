-- What a step and a row come to, by cases: the kinds of steps, what is given up, where an actor stands afterwards.
pub mod Names
pub mod GivenUp
pub mod MergerMoves
pub mod Targets
pub mod LineFates
pub mod NextPlaces
pub mod DeedKinds
pub mod NextHands
pub mod StepSays
pub mod RowFates
pub mod QueueMoves
pub mod Causes
pub mod MemoryTaken
pub mod MovesOn
