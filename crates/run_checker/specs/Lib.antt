pub mod Verdict
pub mod Sighted
pub mod Worked
pub mod inner
