-- The definitions that the contracts of dia_avp speak of.
pub mod Fault
pub mod Encoding
pub mod Avps
pub mod View
pub mod Reading
pub mod Writing
pub mod Field
pub mod Group
pub mod Look
