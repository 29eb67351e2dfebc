-- What only proofs and inner contracts need.
pub mod Hulls
pub mod Words
