-- The definitions that the contracts of cmd_words speak of.
pub mod Words
pub mod Invocations
