-- The definitions that the contracts of bench_gather speak of.
pub mod Replayed
pub mod Ordered
pub mod Checks
pub mod Given
pub mod Gathered
pub mod Merging
