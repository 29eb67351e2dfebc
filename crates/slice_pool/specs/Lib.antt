pub mod Hands
pub mod Rule
pub mod Over
pub mod AtWork
pub mod Pools
pub mod Ends
pub mod inner
