pub mod KeptLemmas
pub mod RoleLemmas
