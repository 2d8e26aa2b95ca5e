pub mod OpenLemmas
pub mod SettleLemmas
pub mod KeyLemmas
pub mod AbsentLemmas
pub mod ViewLemmas
pub mod LegalLemmas
pub mod NewLemmas
pub mod SeekLemmas
