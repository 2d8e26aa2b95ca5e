pub mod PlaceLemmas
pub mod TwiceLemmas
pub mod FieldLemmas
pub mod BaseLemmas
