pub mod LineLemmas
pub mod CopyLemmas
pub mod FileLemmas
