-- The definitions that the contracts of live_open speak of.
pub mod Opening
