-- The definitions that the contracts of server_rules speak of.
pub mod Kinds
pub mod Laws
