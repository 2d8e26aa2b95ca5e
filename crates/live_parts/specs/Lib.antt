-- The definitions that the contracts of live_parts speak of.
pub mod Entries
pub mod LineParts
pub mod Stamps
pub mod Clocks
