-- The definitions that the contracts of charge_session speak of.
pub mod Deeds
pub mod Events
pub mod Quotes
pub mod Wants
