pub mod BookLemmas
pub mod DecideLemmas
pub mod FitLemmas
pub mod NextLemmas
