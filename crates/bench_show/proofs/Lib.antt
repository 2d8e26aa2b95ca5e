pub mod PlaceLemmas
pub mod CountLemmas
pub mod NumberLemmas
pub mod HistoryLemmas
pub mod WhyLemmas
pub mod LineLemmas
pub mod TimerLemmas
pub mod QueueLemmas
