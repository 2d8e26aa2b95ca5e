-- The definitions that the contracts of thread_node speak of.
pub mod Nodes
pub mod Boards
pub mod Told
pub mod Ended
