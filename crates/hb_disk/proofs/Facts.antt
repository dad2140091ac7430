pub mod TornLaws
pub mod BecomesLaws
pub mod OverwrittenLaws
pub mod RunLaws
pub mod SyncedLaws
pub mod TwoPieceLaws
pub mod FaultLaws
pub mod RewriteLaws
