pub mod Emits
pub mod HighLemmas
