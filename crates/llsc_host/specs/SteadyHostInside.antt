-- What the fields of a `SteadyHost` stand for.
use Rattle.std.specs.Prelude.{◌≤◌, length, vec_capacity}
use Rattle.llsc_host.specs.declared.steady_host.SteadyHost.TheInside.{Inside}

-- the space is reserved, and no more of it is used
pub record IsReserved (h : Inside) : Type 0 where
  pub used : length h.kept.items ≤ h.space
  pub reserved : h.space ≤ vec_capacity h.kept
