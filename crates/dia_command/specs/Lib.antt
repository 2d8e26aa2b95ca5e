-- The definitions that the contracts of dia_command speak of.
pub mod Header
pub mod Value
pub mod Format
pub mod Field
pub mod Forms
pub mod Command
pub mod Laws
