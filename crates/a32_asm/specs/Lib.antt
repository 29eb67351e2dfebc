pub mod Lines
pub mod Layout
pub mod Statements
pub mod Assembled
pub mod Shown
pub mod inner
