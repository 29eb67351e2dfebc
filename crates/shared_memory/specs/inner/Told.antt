-- Only proofs and inner contracts need these words beside those of `specs/Told`.
use Rattle.std.specs.Prelude.{ℕ, false, []}
use Rattle.llsc_base.specs.declared.access.Place.{Place}
use Rattle.llsc_base.specs.declared.access.Size.TheVariants.{B1}
use Rattle.shared_memory.specs.Origin.{Origin}
use Rattle.shared_memory.specs.Told.{Ask}

abbrev pub ask : Origin → Place → ℕ → Ask
ask origin place value = record { origin = origin; place = place; value = value }

-- where a call doesn't say what it is about
abbrev pub no_ask : Ask
no_ask = ask (record { size = record { mem = 0; threads = 0; classes = 0; limit = 0; granule = 0 }; first = 0; spare = 0; bytes = []; spends = false; steady = false }) (record { addr = 0; size = B1 }) 0
