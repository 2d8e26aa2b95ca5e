pub mod Refusals
pub mod ReadingLemmas
pub mod ListingLemmas
