-- The definitions that the contracts of bench_core speak of.
pub mod Entries
pub mod Whole
pub mod Inside
pub mod Working
pub mod Faults
pub mod Firings
pub mod Carrying
pub mod Starting
pub mod Replaying
pub mod Waiting
pub mod Naming
