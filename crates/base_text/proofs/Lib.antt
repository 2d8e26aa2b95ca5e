pub mod Meaning
pub mod HexText
pub mod NumberLemmas
mod DigitLemmas
