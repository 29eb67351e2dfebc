pub mod Fronts
pub mod Kept
pub mod Streams
pub mod Steadiness
pub mod FirstTexts
