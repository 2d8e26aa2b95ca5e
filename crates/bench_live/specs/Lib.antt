pub mod Slots
pub mod Kept
pub mod Worked
pub mod Carried
pub mod Happened
pub mod Started
pub mod Ended
