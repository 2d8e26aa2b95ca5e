-- The definitions that the contracts of text_parts speak of.
pub mod Fronts
pub mod Words
pub mod Pieces
pub mod Lines
pub mod Left
