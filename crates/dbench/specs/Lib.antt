-- The definitions that the contracts of dbench speak of.
pub mod Living
