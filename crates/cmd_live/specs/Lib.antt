-- The definitions that the contracts of cmd_live speak of.
pub mod Nodes
pub mod Lives
pub mod Refusals
pub mod Told
pub mod Stops
pub mod Met
