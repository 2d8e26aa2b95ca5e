pub mod MovesLemmas
pub mod CopyLemmas
