pub mod Outs
pub mod AnswerForms
pub mod Scripts
