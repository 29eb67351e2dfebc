pub mod Loops
pub mod Totals
