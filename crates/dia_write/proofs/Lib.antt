pub mod WriteLemmas
pub mod FillLemmas
