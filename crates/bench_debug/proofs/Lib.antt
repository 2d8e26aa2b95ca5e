pub mod PlaceLemmas
pub mod BackLemmas
pub mod GoingLemmas
pub mod RewindLemmas
pub mod MetLemmas
pub mod KeptLemmas
