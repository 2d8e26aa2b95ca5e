-- The definitions that the contracts of bench_shard speak of.
pub mod Names
pub mod View
pub mod Settling
pub mod Tasks
pub mod Refusal
pub mod Works
pub mod Stands
pub mod Lent
