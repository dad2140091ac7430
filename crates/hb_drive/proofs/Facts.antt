pub mod AnswerTexts
