pub mod DefinitionLemmas
pub mod HaltLemmas
pub mod CallLemmas
pub mod SetupLemmas
pub mod OpeningLemmas
