-- The definitions that the contracts of dia_show speak of.
pub mod Names
pub mod Dates
pub mod Parts
pub mod Glossary
pub mod Values
