pub mod ItemLemmas
pub mod DeedLemmas
pub mod CompareLemmas
pub mod TellLemmas
pub mod ReaderLemmas
pub mod EndLemmas
pub mod ReadLemmas
