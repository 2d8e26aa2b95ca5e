-- The definitions that the contracts of bench_setup speak of.
pub mod Refusals
pub mod Halts
pub mod Setups
pub mod Opening
