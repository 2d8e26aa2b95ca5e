pub mod LawLemmas
pub mod RefusalLemmas
pub mod ToldLemmas
pub mod TwiceLemmas
pub mod LivesLemmas
