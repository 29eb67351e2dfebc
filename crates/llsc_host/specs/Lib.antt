pub mod Host
pub mod Writes
pub mod MemoryHost
pub mod MemoryHostInside
pub mod SteadyHost
pub mod SteadyHostInside
pub mod Said
pub mod inner
