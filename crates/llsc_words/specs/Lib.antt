pub mod Names
pub mod Commands
pub mod Given
pub mod Request
pub mod Worked
pub mod inner
