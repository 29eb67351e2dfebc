-- What only proofs and inner contracts need.
pub mod Comes
pub mod Files
pub mod Load
pub mod Merged
pub mod Outcome
pub mod RecordFiles
