-- What only proofs and inner contracts need.
pub mod Crews
pub mod Pieces
pub mod Ports
pub mod Sharing
pub mod ThreadState
pub mod Turns
pub mod Under
