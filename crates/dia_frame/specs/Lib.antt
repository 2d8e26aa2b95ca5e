-- The definitions that the contracts of dia_frame speak of.
pub mod Fault
pub mod Frames
pub mod Framer
pub mod Laws
pub mod Whole
pub mod Examples
