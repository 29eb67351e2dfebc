-- What only proofs and inner contracts need.
pub mod Bounds
