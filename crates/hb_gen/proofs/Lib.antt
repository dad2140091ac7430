pub mod DrawSteps
pub mod TextSteps
pub mod PlainWords
pub mod LineWords
pub mod DrawnLines
pub mod ReadBack
