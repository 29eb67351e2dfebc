pub mod Listing
pub mod Branching
pub mod Onward
pub mod ThreadRuns
