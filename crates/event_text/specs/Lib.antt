-- The definitions that the contracts of event_text speak of.
pub mod Deeds
pub mod Events
pub mod Left
pub mod Wrong
