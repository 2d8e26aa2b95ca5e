pub mod LineLemmas
pub mod PourLemmas
pub mod EndLemmas
