-- The definitions that the contracts of tab_step speak of.
pub mod Moves
pub mod Bind
pub mod Runs
pub mod WorkedRows
