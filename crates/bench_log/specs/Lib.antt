-- The definitions that the contracts of bench_log speak of.
pub mod Twins
pub mod Moves
pub mod Logged
pub mod Targets
