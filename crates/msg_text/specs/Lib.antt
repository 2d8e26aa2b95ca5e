-- The definitions that the contracts of msg_text speak of.
pub mod Lines
pub mod Printed
pub mod Rooms
pub mod Styles
pub use Rattle.msg_input.specs.ByLine
pub use Rattle.msg_input.specs.Ends
pub use Rattle.msg_input.specs.Inputs
