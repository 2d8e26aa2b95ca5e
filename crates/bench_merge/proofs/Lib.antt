pub mod HeadLemmas
pub mod StepLemmas
pub mod ClashLemmas
pub mod LawLemmas
