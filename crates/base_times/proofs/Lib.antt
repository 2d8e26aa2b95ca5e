pub mod BucketLemmas
pub mod CountLemmas
pub mod PercentileLemmas
