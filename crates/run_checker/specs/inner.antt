-- What only proofs and inner contracts need.
pub mod Positions
pub mod Serving
