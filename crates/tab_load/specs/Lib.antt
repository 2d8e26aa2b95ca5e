-- The definitions that the contracts of tab_load speak of.
pub mod Faults
pub mod Code
pub mod Names
pub mod Loading
pub mod Promise
