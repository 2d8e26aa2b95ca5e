-- The definitions that the contracts of live_turns speak of.
pub mod Watched
pub mod Together
