-- What only proofs and inner contracts need.
pub mod Seats
pub mod Served
