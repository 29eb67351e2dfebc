-- Only proofs and inner contracts need these words beside those of `specs/Words`.
use Rattle.std.specs.Prelude.{ℕ, ◌<◌, ◌^◌, List, slice_index}

-- registers hold 32 bits each
abbrev pub AreWords : List ℕ → Type 0
AreWords regs = (i : ℕ) → slice_index regs i < 2 ^ 32
