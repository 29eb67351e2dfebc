-- What only proofs and inner contracts need.
pub mod AtWork
pub mod Ends
pub mod Hands
pub mod Over
pub mod Rule
