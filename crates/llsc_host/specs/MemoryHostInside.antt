-- What the fields of a `MemoryHost` stand for.
use Rattle.std.specs.Prelude.{◌≤◌, length, vec_capacity}
use Rattle.llsc_host.specs.declared.memory_host.MemoryHost.TheInside.{Inside}

-- the space is reserved, and no more of it is used
pub record IsReserved (h : Inside) : Type 0 where
  pub used : length h.written.items ≤ h.space
  pub reserved : h.space ≤ vec_capacity h.written
