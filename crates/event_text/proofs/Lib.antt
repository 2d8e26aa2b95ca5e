pub mod ZeroLemmas
pub mod FactsLemmas
pub mod EventExamples
