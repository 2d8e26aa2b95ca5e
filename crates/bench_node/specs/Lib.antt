-- The definitions that the contracts of bench_node speak of.
pub mod Going
pub mod Telling
pub mod Settled
pub mod Firings
pub mod Timed
