-- The definitions that the contracts of base_text speak of.
pub mod Digits
pub mod Stops
pub mod Contents
pub mod Numbers
