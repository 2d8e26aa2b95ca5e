-- What deeds post, as the code has it.
pub mod Groups
pub mod Made
pub mod Nodes
pub mod Sessions
