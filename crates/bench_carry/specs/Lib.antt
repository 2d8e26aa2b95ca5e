-- The definitions that the contracts of bench_carry speak of.
pub mod Seen
pub mod Undone
pub mod Placed
pub mod Hands
pub mod Dropped
pub mod Parts
