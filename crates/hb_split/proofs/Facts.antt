pub mod Allowed
pub mod Ends
pub mod Choices
