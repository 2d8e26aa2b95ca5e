-- The definitions that the contracts of bench_start speak of.
pub mod Starting
