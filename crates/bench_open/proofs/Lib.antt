pub mod ListLemmas
pub mod ReasonLemmas
pub mod AccountLemmas
pub mod OpenableLemmas
pub mod KindLemmas
pub mod BookLemmas
pub mod UnboundLemmas
pub mod OpeningLemmas
