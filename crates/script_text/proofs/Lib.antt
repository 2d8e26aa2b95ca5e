pub mod NameLemmas
pub mod PairLemmas
pub mod LineLemmas
