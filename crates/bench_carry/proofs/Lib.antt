pub mod PartLemmas
pub mod LiftLemmas
pub mod HandLemmas
pub mod DropLemmas
pub mod TimerLemmas
pub mod BackLemmas
