-- What only proofs and inner contracts need.
pub mod MemoryHostInside
pub mod SteadyHostInside
