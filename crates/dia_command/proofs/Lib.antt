pub mod SameLaws
pub mod AgainLaws
