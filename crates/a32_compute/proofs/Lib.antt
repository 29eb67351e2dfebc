pub mod Signed
pub mod Amounts
pub mod Lists
