-- The definitions that the contracts of dia_dict speak of.
pub mod Kind
pub mod Base
pub mod Dictionary
