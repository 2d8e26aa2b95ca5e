pub mod AnswerLemmas
pub mod HandLemmas
pub mod TextLemmas
pub mod HearLemmas
pub mod SendLemmas
pub mod PumpLemmas
