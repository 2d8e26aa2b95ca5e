-- The definitions that the contracts of bench_open speak of.
pub mod Given
pub mod Faults
pub mod Openable
pub mod Kinds
