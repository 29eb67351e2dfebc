-- What only proofs and inner contracts need.
pub mod Counting
pub mod Clock
