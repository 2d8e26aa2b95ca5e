pub mod CountLemmas
pub mod ScanLemmas
pub mod NameLemmas
pub mod CheckLemmas
pub mod RefusalLemmas
pub mod BodyLemmas
pub mod PromiseLemmas
pub mod OnlyLemmas
