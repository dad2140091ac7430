-- Where latches come from, and that those of an activity stay.
pub mod Names
pub mod SameLatches
pub mod MergerBacked
pub mod Backing
pub mod HeldKept
pub mod LatchesStay
pub mod Beside
