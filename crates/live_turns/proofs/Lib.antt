pub mod LawLemmas
pub mod WatchLemmas
