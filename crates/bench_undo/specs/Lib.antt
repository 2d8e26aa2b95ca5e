-- The definitions that the contracts of bench_undo speak of.
pub mod Records
