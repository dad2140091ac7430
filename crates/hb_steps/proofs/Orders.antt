-- Lines in their sequence, places and replies, contents, and prefixes of the order.
pub mod Names
pub mod LinesFit
pub mod RowContents
pub mod StepContents
pub mod Sequences
pub mod OrderPlaces
pub mod LegalOrder
pub mod AnswersInPlace
pub mod PendingKept
pub mod Prefixes
pub mod RepliesKept
pub mod ShortOrder
pub mod SingleAnswers
pub mod MarksKept
pub mod ImagePrefixes
