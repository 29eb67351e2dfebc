pub mod Horner
pub mod PlainWords
pub mod Decimals
pub mod Lengths
pub mod Values
pub mod PlainTexts
pub mod HexTexts
