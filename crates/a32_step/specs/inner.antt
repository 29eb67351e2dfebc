-- What only proofs and inner contracts need.
pub mod Acting
pub mod ExecutionState
pub mod Inside
pub mod Lowering
pub mod Machine
pub mod Passages
pub mod Progress
pub mod Slots
pub mod Coming
