pub mod BeforeLemmas
pub mod TallyLemmas
pub mod MetLemmas
pub mod CountLemmas
pub mod PlaceLemmas
pub mod StandLemmas
pub mod RightLemmas
