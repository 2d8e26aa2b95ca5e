pub mod ElectionLemmas
