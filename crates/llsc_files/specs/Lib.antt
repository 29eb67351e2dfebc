pub mod Refusals
pub mod Programs
pub mod Reads
