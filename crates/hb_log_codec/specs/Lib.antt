pub mod Groups
pub mod ExactFields
pub mod Fields
pub mod Reading
pub mod RecordGroups
