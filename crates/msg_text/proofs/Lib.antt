pub mod Puts
pub mod Rooms
