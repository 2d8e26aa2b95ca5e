-- The definitions that the contracts of tab_walk speak of.
pub mod Starts
pub mod Whys
pub mod Places
pub mod Walks
pub mod Pours
