-- The definitions that the contracts of cmd_debug speak of.
pub mod Sessions
pub mod Opened
pub mod Told
pub mod Met
