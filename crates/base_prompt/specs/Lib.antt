-- The definitions that the contracts of base_prompt speak of.
pub mod Again
