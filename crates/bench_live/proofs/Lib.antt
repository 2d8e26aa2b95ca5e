pub mod EndedLemmas
pub mod MissingLemmas
pub mod SendLemmas
pub mod SlotLemmas
pub mod StartLemmas
