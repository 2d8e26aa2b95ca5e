-- The definitions that the contracts of fault_text speak of.
pub mod Nearest
pub mod Words
pub mod Spots
pub mod Faults
