pub mod WalkLemmas
pub mod PourLemmas
pub mod WhyLemmas
