-- The definitions that the contracts of tab_print speak of.
pub mod Cells
pub mod Printed
pub mod ReadBack
