-- The definitions that the contracts of live_report speak of.
pub mod Reports
pub mod Files
pub mod Copies
