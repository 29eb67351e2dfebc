pub mod Machine
pub mod Replied
pub mod RowActs
pub mod inner
