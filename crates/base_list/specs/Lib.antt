-- The definitions that the contracts of base_list speak of.
pub mod Adding
pub mod Named
