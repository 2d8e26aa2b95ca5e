pub mod TextLemmas
pub mod TwiceLemmas
