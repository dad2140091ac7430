-- What every machine keeps over any disk, the beginning, and lists of steps.
pub mod BesideSteps
