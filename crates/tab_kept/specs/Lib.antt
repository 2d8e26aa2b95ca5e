-- The definitions that the contracts of tab_kept speak of.
pub mod Coded
pub mod Padded
pub mod Trimmed
