-- The definitions that the contracts of tab_law speak of.
pub mod Scenes
pub mod Values
pub mod Guards
pub mod Acts
pub mod Books
