-- The definitions that the contracts of bench_looks speak of.
pub mod Parts
pub mod Before
pub mod Tallies
pub mod Brought
