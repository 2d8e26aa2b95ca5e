-- The definitions that the contracts of tick_wheel speak of.
pub mod Places
pub mod Timers
