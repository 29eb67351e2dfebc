mod Cases
mod Same
pub mod Values
mod Writes
mod LeftBytes
mod Done
mod Histories
mod Halves
