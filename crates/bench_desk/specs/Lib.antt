-- The definitions that the contracts of bench_desk speak of.
pub mod Runs
pub mod Parts
pub mod Desks
pub mod Working
pub use Rattle.bench_move.specs.Moves
