-- The definitions that the contracts of peer_rules speak of.
pub mod Kinds
pub mod Laws
pub mod Sides
pub mod Events
pub mod Election
pub mod Messages
