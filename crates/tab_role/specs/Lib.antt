-- The definitions that the contracts of tab_role speak of.
pub mod Roles
pub mod Entries
pub mod Registering
