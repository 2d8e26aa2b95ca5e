pub mod AgreeLemmas
