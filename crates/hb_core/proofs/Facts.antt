-- What other crates cite of the core: what one step tells, what many steps come to, and a core that has taken none.
pub mod Names
pub mod AnswersGiven
pub mod LinesLeft
pub mod RunFaults
pub mod RunDisks
pub mod RunCrashes
pub mod RunSteps
pub mod BegunCores
pub mod RunLines
pub mod CountsKept
pub mod BetweenCalls
pub mod SettledPlaces
