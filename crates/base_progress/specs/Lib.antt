-- The definitions that the contracts of base_progress speak of.
pub mod Shown
