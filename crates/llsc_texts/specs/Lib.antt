pub mod Assembly
pub mod Disassembly
pub mod Paging
