-- The definitions that the contracts of tab_draw speak of.
pub mod Labels
pub mod Drawing
pub mod Runs
