-- The definitions that the contracts of tab_text speak of.
pub mod Codes
pub mod Contents
pub mod Names
pub mod Cells
pub mod Rows
pub mod Faults
pub mod Passing
pub mod Reading
pub mod Rooms
pub mod Reader
