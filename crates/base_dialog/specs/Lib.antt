-- The definitions that the contracts of base_dialog speak of.
pub mod Lines
pub mod Dialogs
pub mod Poured
pub mod Told
