-- The definitions that the contracts of deed_message speak of.
pub mod Headers
