pub mod LifeLemmas
pub mod TogetherLemmas
