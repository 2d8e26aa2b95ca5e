-- The definitions that the contracts of live_stats speak of.
pub mod Seen
pub mod Exchanges
pub mod Tallies
pub mod Lines
