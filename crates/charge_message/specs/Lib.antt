-- The definitions that the contracts of charge_message speak of.
pub mod Avps
pub mod Services
pub mod Messages
