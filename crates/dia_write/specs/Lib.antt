-- The definitions that the contracts of dia_write speak of.
pub mod Filling
pub mod Values
pub mod Framing
pub mod Encoding
pub mod Answer
