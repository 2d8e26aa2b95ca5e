-- The definitions that the contracts of step_text speak of.
pub mod Commands
pub mod Names
pub mod Lines
pub mod Guess
pub mod Shown
pub mod Matching
pub mod Steps
pub mod Faults
pub mod LineExamples
