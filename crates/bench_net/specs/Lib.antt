-- The definitions that the contracts of bench_net speak of.
pub mod Events
pub mod Texts
pub mod Pipes
pub mod Answers
pub mod Givens
pub mod Readings
pub mod Writings
pub mod Codes
pub mod Pumps
