pub mod FirstLemmas
pub mod ActLemmas
pub mod LineLemmas
pub mod BoundLemmas
pub mod FreeLemmas
pub mod SettleLemmas
