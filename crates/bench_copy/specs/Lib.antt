-- The definitions that the contracts of bench_copy speak of.
pub mod Copied
