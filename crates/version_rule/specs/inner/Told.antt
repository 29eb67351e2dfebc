-- Only proofs and inner contracts need these words beside those of `specs/Told`.
use Rattle.std.specs.Prelude.{ℕ}
use Rattle.shared_memory.specs.inner.Told.{no_ask}
use Rattle.shared_memory.specs.Origin.{Origin}
use Rattle.version_rule.specs.Told.{Birth}

abbrev pub birth : Origin → (child entry arg : ℕ) → Birth
birth origin child entry arg = record { origin = origin; child = child; entry = entry; arg = arg }

-- where a call doesn't say which
abbrev pub no_birth : Birth
no_birth = birth no_ask.origin 0 0 0
