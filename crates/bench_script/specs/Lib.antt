-- The definitions that the contracts of bench_script speak of.
pub mod Settled
pub mod Printed
pub mod Ran
pub mod Ends
