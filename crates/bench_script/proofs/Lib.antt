pub mod NextLemmas
pub mod LogLemmas
pub mod PrintedLemmas
pub mod RanLemmas
