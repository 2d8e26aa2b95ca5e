-- The definitions that the contracts of live_desk speak of.
pub mod Standing
pub mod Texts
pub mod Desks
pub mod Keys
pub mod Read
