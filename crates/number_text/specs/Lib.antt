pub mod Digits
pub mod Decimal
pub mod Hexadecimal
