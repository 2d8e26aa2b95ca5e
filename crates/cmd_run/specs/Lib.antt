-- The definitions that the contracts of cmd_run speak of.
pub mod Ends
pub mod Runs
pub mod Logged
pub mod Watched
