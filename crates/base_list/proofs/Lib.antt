pub mod NamedLemmas
