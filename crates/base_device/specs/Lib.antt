-- The definitions that the contracts of base_device speak of.
pub mod Statuses
pub mod Tellings
pub mod Devices
pub mod Inputs
