pub mod SentLemmas
pub mod TurnLemmas
