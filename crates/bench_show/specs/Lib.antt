-- The definitions that the contracts of bench_show speak of.
pub mod History
pub mod Why
pub mod Lines
pub mod Timers
pub mod Queues
pub mod Accounts
