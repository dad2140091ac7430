pub mod Facts
pub mod PointExamples
pub mod AllowedCommands
pub mod SplitExamples
pub mod AskedRows
pub mod HeldPoints
pub mod ViewedRows
pub mod DescendedRows
