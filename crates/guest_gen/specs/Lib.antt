pub mod Counters
pub mod Namings
pub mod Text
