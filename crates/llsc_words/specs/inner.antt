-- What only proofs and inner contracts need.
pub mod Commands
pub mod Given
