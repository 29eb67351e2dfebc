-- What only proofs and inner contracts need.
pub mod Steps
pub mod Texts
