pub mod Bound
pub mod Calls
pub mod Outcomes
pub mod OutputInside
pub mod Pairs
pub mod Run
pub mod Steps
pub mod Worked
