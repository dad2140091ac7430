pub mod BodyLaws
pub mod ClearLaws
pub mod Gates
