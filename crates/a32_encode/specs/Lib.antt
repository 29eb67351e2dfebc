pub mod Word
pub mod Encoding
pub mod Faults
