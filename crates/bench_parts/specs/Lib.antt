-- The definitions that the contracts of bench_parts speak of.
pub mod Views
pub mod Found
pub mod Own
