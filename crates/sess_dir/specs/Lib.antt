-- The definitions that the contracts of sess_dir speak of.
pub mod Names
