-- The words of the running bench.
pub mod Past
pub mod Entries
pub mod Keys
pub mod Lines
pub mod Posts
pub mod Steps
pub mod PostExamples
pub mod Peers
pub mod PeerExamples
