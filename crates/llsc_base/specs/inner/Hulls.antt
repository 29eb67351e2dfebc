-- Only proofs and inner contracts need these words beside those of `specs/Hulls`.
use Rattle.std.specs.Prelude.{ℕ, ◌&&◌, nat_lt, Bool}
use Rattle.llsc_base.specs.declared.hulls.Hull.{Hull}

-- a hull has an address from one address up to another that is above it
abbrev pub meets : Hull → ℕ → ℕ → Bool
meets hull from to = nat_lt from hull.end && nat_lt hull.start to
