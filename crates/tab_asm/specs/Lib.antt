-- The definitions that the contracts of tab_asm speak of.
pub mod Formats
pub mod Images
pub mod Paths
pub mod Assembled
pub mod WorkedImages
