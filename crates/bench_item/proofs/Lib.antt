pub mod PeerLemmas
