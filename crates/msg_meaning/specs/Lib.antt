-- The definitions that the contracts of msg_meaning speak of.
pub mod Meaning
