pub mod SessionLemmas
pub mod AvpLemmas
