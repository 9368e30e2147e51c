-- what teams have answered
pub mod AnswerLemmas
