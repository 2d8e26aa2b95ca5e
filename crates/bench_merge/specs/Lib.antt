-- The definitions that the contracts of bench_merge speak of.
pub mod Order
pub mod Heads
