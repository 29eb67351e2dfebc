pub mod Limits
pub mod Names
pub mod Text
pub mod Fault
pub mod Fields
pub mod Reading
pub mod inner
