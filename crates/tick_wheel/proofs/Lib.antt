pub mod CallerLemmas
pub mod DueLemmas
pub mod OrderLemmas
pub mod PlaceLemmas
pub mod CountLemmas
