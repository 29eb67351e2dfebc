-- What only proofs and inner contracts need.
pub mod Headers
pub mod Image
