-- What only proofs and inner contracts need.
pub mod Fronts
pub mod Registers
pub mod Took
