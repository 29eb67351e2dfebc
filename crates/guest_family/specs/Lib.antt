pub mod Kin
pub mod inner
