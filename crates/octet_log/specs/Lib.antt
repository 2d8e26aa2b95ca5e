-- A log from octets to a reservation, and what it says.
pub mod Log
pub mod Examples
