-- The definitions that the contracts of debug_text speak of.
pub mod Tables
pub mod Faults
pub mod Verbs
pub mod Words
pub mod Breaks
pub mod Commands
pub mod Replies
