pub mod Kept
pub mod Exact
pub mod Told
pub mod Passes
pub mod Memory
pub mod inner
