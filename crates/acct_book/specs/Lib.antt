-- The definitions that the contracts of acct_book speak of.
pub mod Sums
pub mod Book
pub mod Slots
pub mod Served
pub mod Stored
pub mod Laws
pub mod Alone
pub mod Ledger
