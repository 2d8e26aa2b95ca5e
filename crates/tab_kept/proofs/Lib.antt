pub mod CodedLemmas
pub mod PlacesLemmas
pub mod TrimmedLemmas
