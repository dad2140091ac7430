-- What rows tell of their operations, that these are allowed and licensed, and that files stay sound.
pub mod Names
pub mod PairAtHand
pub mod RowTells
pub mod FitOps
pub mod FileOps
pub mod SoundFiles
pub mod MergedPair
pub mod AllowedRows
pub mod AskedPages
pub mod RowsDoable
