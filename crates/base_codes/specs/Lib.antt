-- The definitions that the contracts of base_codes speak of.
pub mod ResultCodes
pub mod CommandCodes
pub mod DeedCodes
pub mod ResultNames
pub mod AvpCodes
pub mod Places
