pub mod TextLemmas
pub mod GoingLemmas
pub mod DoingLemmas
pub mod MovingLemmas
pub mod TellLemmas
pub mod EndLemmas
