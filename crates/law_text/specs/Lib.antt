-- The definitions that the contracts of law_text speak of.
pub mod Atoms
pub mod Sentences
pub mod Unmet
