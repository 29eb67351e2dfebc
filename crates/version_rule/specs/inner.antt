-- What only proofs and inner contracts need.
pub mod Hands
pub mod Told
