pub mod Hands
pub mod Knowledge
pub mod StartWords
pub mod Kept
pub mod Exact
pub mod Left
pub mod Told
pub mod inner
