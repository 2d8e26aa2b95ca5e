-- The definitions that the contracts of dia_msg speak of.
pub mod Taken
pub mod Sorting
pub mod Faults
pub mod Reading
pub mod Source
pub mod Walk
