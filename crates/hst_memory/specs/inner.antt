-- What only proofs and inner contracts need.
pub mod Hands
pub mod Kept
pub mod Knowledge
pub mod Passes
pub mod Told
