-- The definitions that the contracts of cmd_read speak of.
pub mod Reads
