-- The definitions that the contracts of dict_text speak of.
pub mod Words
pub mod Wrong
pub mod Entries
pub mod Seen
pub mod Read
pub mod Told
