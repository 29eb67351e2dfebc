pub mod Faults
pub mod Headers
pub mod Image
pub mod Units
pub mod Written
pub mod inner
