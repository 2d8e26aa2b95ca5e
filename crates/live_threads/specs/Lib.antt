-- The definitions that the contracts of live_threads speak of.
pub mod Lives
pub mod Together
