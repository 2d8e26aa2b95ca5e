-- The definitions that the contracts of client_rules speak of.
pub mod Kinds
pub mod Laws
