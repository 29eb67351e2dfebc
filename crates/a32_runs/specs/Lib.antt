pub mod OneWord
pub mod Leaving
pub mod Turns
pub mod Verdicts
