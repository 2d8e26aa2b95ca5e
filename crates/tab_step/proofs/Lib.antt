pub mod BindLemmas
pub mod MoveLemmas
pub mod RunLemmas
