pub mod Facts
pub mod WaitingActors
pub mod KindExamples
pub mod PassedOn
