pub mod StampLemmas
pub mod LineLemmas
pub mod ClockLemmas
pub mod DueLemmas
