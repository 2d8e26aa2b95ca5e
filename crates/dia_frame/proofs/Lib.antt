pub mod WholeLemmas
pub mod FrameLemmas
pub mod FramerLemmas
pub mod LawLemmas
pub mod HoldLemmas
