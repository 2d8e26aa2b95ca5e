-- The definitions that the contracts of test_node speak of.
pub mod Binding
