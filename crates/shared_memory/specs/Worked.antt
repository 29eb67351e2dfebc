-- What the worked cases are about: machines, memories, and thread numbers. This project's own.
use Rattle.std.specs.Prelude.{ℕ, Bool, false, ◌==◌, nat_lt, replicate}
use Rattle.llsc_base.specs.Sizes.{Numbers}
use Rattle.history.specs.Worked.{small_machine}
use Rattle.shared_memory.specs.Origin.{Origin}

-- a memory of 32 bytes that are 0, which counts the writes of its classes or doesn't, and of which it isn't said that a
-- store-exclusive loses to nothing but writes; none of its two threads may start others
abbrev pub made : Numbers → Bool → Origin
made size spends = record { size = size; first = 2; spare = 0; bytes = replicate 32 0; spends = spends; steady = false }

-- a small machine of two threads with so many classes, each of which takes so many writes
abbrev pub limited_machine : (classes limit : ℕ) → Numbers
limited_machine classes limit = record (small_machine classes) { limit = limit }

-- the same machine with rows of 16 bytes
abbrev pub wide_limited_machine : (classes limit : ℕ) → Numbers
wide_limited_machine classes limit = record (limited_machine classes limit) { granule = 1 }

-- one number alone
abbrev pub alone : ℕ → ℕ → Bool
alone thread = λ other. other == thread

-- the numbers below one
abbrev pub below : ℕ → ℕ → Bool
below count = λ thread. nat_lt thread count
