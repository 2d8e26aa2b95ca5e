pub mod SessionLemmas
pub mod OpenedLemmas
pub mod ToldLemmas
pub mod MetLemmas
