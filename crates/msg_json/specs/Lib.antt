-- The definitions that the contracts of msg_json speak of.
pub mod Lines
