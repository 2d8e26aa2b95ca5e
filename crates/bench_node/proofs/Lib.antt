pub mod GoingLemmas
pub mod OpenLemmas
pub mod WentLemmas
pub mod FireLemmas
pub mod SourceLemmas
pub mod TimedLemmas
