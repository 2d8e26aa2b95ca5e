-- The definitions that the contracts of bench_move speak of.
pub mod Tables
pub mod Moves
pub mod May
