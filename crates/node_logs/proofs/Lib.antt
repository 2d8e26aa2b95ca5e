pub mod LogLemmas
pub mod FileLemmas
