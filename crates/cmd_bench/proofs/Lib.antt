pub mod RunLemmas
pub mod EndLemmas
pub mod BookLemmas
pub mod OpenLemmas
pub mod NodeEndLemmas
pub mod LoggedLemmas
pub mod ShownLemmas
