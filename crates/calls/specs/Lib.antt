pub mod AnswerText
pub mod Asked
pub mod CallResults
