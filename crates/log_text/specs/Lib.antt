-- The definitions that the contracts of log_text speak of.
pub mod Books
pub mod EntryLines
pub mod ItemLines
pub mod DeedLines
pub mod Shown
pub mod Following
pub mod Reading
