pub mod TextLemmas
pub mod CellLemmas
pub mod LineLemmas
pub mod NumberLemmas
pub mod BackLemmas
