pub mod Facts
pub mod TableViews
pub mod Retained
pub mod Conflicts
pub mod Shares
pub mod KeptEdits
pub mod Compatible
pub mod Counts
