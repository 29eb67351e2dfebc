-- What only proofs and inner contracts need.
pub mod Crews
pub mod Filling
pub mod Logging
pub mod Merging
pub mod Reservations
pub mod Tables
