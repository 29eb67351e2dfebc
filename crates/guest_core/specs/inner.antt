-- What only proofs and inner contracts need.
pub mod Asking
pub mod Machine
pub mod Passages
pub mod Sound
