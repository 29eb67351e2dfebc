pub mod Numbers
pub mod Handles
pub mod Accesses
pub mod Faults
pub mod Left
