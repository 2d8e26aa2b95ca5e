-- The definitions that the contracts of net_sockets speak of.
pub mod Turns
