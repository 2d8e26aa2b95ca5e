-- The definitions that the contracts of bench_debug speak of.
pub mod Asking
pub mod Meets
pub mod Tables
pub mod Debug
pub mod Seen
