pub mod EndLemmas
pub mod RunLemmas
pub mod ReadLemmas
pub mod ByLineLemmas
