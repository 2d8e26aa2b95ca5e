-- The definitions that the contracts of msg_input speak of.
pub mod Ends
pub mod Printed
pub mod Reports
pub mod Inputs
pub mod Readings
pub mod ByLine
pub mod ByLineSoFar
