pub mod CodeLemmas
pub mod NameLemmas
pub mod PathLemmas
pub mod PickLemmas
pub mod MeansLemmas
