-- The definitions that the contracts of role_tables speak of.
pub mod Roles
