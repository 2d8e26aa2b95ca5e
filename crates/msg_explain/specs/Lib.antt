-- The definitions that the contracts of msg_explain speak of.
pub mod Parts
pub mod Lines
pub mod Messages
pub mod Faulty
pub mod Explained
