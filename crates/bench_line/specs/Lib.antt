-- What connections put out, answer and keep.
pub mod Messages
pub mod Talk
pub mod Line
pub mod Lines
pub mod Refusals
pub mod Rounds
pub mod Before
pub mod Dials
pub mod Change
pub mod Examples
