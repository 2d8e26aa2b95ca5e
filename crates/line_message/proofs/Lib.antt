pub mod AnswerLemmas
pub mod GreaterLemmas
pub mod SentLemmas
