-- The definitions that the contracts of base_times speak of.
pub mod Counts
pub mod Buckets
pub mod Percentiles
