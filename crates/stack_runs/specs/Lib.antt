pub mod Guest
pub mod Stacks
pub mod Hands
pub mod Text
