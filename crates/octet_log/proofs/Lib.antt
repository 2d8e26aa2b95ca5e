-- That the log is legal.
pub mod MeaningLemmas
pub mod LegalLemmas
