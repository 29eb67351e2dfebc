-- A host that never fails: what it holds, and what its two calls answer and make of it.
use Rattle.std.specs.Prelude.{ℕ, ◌+◌, ◌-◌, ◌^◌, ◌==◌, min, List, ◌++◌, length, take, Option, Some, None, if◌then◌else◌}

-- the one file, the space for writes, what was written as far as it fits, and how many bytes came past the space
pub record Steady : Type 0 where
  pub file : List ℕ
  pub space : ℕ
  pub kept : List ℕ
  pub past : ℕ

-- how many bytes the space has room for
abbrev pub space_left : Steady → ℕ
space_left held = held.space - length held.kept

-- what was written so far: it is told where all of it fits
abbrev pub written_of : Steady → Option (List ℕ)
written_of held = if held.past == 0 then Some held.kept else None

-- the host after a write of the bytes: those that fit are kept, and the others are counted, up to the end of the count's type
abbrev pub after_write : Steady → List ℕ → Steady
after_write held bytes = record held {
  kept = held.kept ++ take (space_left held) bytes;
  past = min (held.past + (length bytes - space_left held)) (2 ^ 64 - 1);
}
