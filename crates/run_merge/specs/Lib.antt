pub mod Logs
pub mod Merge
pub mod Taking
pub mod Crews
pub mod Runs
pub mod inner
