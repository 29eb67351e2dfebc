-- What only proofs and inner contracts need.
pub mod Carrying
pub mod Inside
pub mod Outcome
pub mod Registers
pub mod Rows
