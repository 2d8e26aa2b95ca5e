-- The definitions that the contracts of cmd_bench speak of.
pub mod Told
pub mod Met
pub mod Nodes
pub mod Logged
