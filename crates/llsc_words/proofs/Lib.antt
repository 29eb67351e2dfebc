pub mod Stated
pub mod Found
pub mod OnLiterals
pub mod Laid
pub mod Counted
pub mod Named
