-- What messages mean to a connection.
pub mod Answers
pub mod Greater
pub mod Heard
pub mod Hearing
pub mod Posts
pub mod Sent
pub mod Turned
