pub mod Turns
pub mod Traces
pub mod Alone
pub mod Worked
pub mod inner
