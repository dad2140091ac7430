-- Chains of steps that are worked out by hand.
pub mod Names
pub mod WrittenTables
pub mod OrderOfUse
pub mod BuiltSteps
pub mod TakenLines
pub mod BroughtSteps
pub mod FlushedSteps
pub mod ChainOfInsert
pub mod SaidSteps
pub mod UntoldSteps
pub mod ChainOfReadFault
