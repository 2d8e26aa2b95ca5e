-- The definitions that the contracts of charge_facts speak of.
pub mod Amounts
pub mod Accounts
pub mod Places
pub mod Requests
pub mod Answers
