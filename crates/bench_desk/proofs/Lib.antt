pub mod MachineLemmas
pub mod PartLemmas
pub mod WorkLemmas
pub mod CountLemmas
pub mod DeskLemmas
