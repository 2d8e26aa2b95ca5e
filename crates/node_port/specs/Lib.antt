-- The definitions that the contracts of node_port speak of.
pub mod Happened
