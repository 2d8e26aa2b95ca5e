-- The definitions that the contracts of bench_queue speak of.
pub mod Outbox
pub mod Inbox
