pub mod ViewLemmas
pub mod FoundLemmas
