-- Only proofs and inner contracts need these words.
-- The numbers that are left to a pass of all threads, once those of some were split off.
use Rattle.std.specs.Prelude.{◌≡◌, ℕ, Bool, nat_le, nat_lt, ◌==◌, ◌&&◌, ◌||◌}

-- 0, those of the first threads from one up, and those of the others from one up
abbrev pub is_left : (first all low top : ℕ) → ℕ → Bool
is_left first all low top u = (u == 0) || (nat_le low u && nat_lt u first) || (nat_le top u && nat_lt u all)

-- a pass has just these
abbrev pub AreLeft : (first all low top : ℕ) → (ℕ → Bool) → Type 0
AreLeft first all low top numbers = (u : ℕ) → numbers u ≡ is_left first all low top u
