pub mod FaultLaws
pub mod FaultLemmas
pub mod RelationLaws
pub mod CanonicalLaws
pub mod CanonicalRelation
pub mod CanonicalLemmas
pub mod StandardFacts
