pub mod Apart
pub mod SilentCompare
pub mod Meanings
pub mod Pairs
pub mod Rotation
pub mod WideMoves
