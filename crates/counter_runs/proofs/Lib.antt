pub mod Words
pub mod States
pub mod Blocks
pub mod Rounds
pub mod Stores
pub mod CounterWords
pub mod Counted
