pub mod Follows
pub mod Placed
pub mod Asked
pub mod Resting
pub mod KeptOn
