-- The definitions that the contracts of tab_image speak of.
pub mod RunBy
pub mod Walks
pub mod Tables
