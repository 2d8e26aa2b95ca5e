-- The definitions that the contracts of bench_nodes speak of.
pub mod Ends
pub mod Marked
pub mod Acts
pub mod Crossings
pub mod Settled
pub mod Scripts
pub mod Told
pub use Rattle.bench_script.specs.Printed
