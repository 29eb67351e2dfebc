-- What only proofs and inner contracts need.
pub mod Passes
pub mod Targets
pub mod Told
