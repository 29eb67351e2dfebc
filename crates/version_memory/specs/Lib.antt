pub mod Stands
pub mod Exact
pub mod Passes
pub mod Memory
pub mod inner
