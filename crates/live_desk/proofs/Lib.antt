pub mod AlikeLemmas
pub mod KeyLemmas
