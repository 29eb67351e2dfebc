-- What only proofs and inner contracts need.
pub mod Labels
pub mod Places
pub mod Seen
