-- The definitions that the contracts of acct_totals speak of.
pub mod Amounts
pub mod Answers
pub mod Kept
pub mod Slots
