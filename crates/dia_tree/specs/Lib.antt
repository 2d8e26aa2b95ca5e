-- The definitions that the contracts of dia_tree speak of.
pub mod Kind
pub mod Faults
pub mod View
pub mod Canonical
