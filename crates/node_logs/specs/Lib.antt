-- The definitions that the contracts of node_logs speak of.
pub mod Files
pub mod Logs
