-- The definitions that the contracts of bench_views speak of.
pub mod Shards
pub mod Carried
pub mod LinePasts
pub mod LineLifts
pub mod Timers
pub mod Pages
pub mod Stored
pub mod Worked
pub mod Behind
pub mod Looks
pub mod Laws
