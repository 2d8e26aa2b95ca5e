-- The definitions that the contracts of script_text speak of.
pub mod Keys
pub mod Scripts
pub mod RunLines
