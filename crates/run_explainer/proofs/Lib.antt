pub mod Since
pub mod Counting
pub mod Values
pub mod Made
pub mod Paged
pub mod Marked
pub mod Told
