-- Accesses of the worked histories, in a memory of 32 bytes and two threads.
use Rattle.std.proofs.Common.{◌≡◌, ◌==◌, ℕ, ◌<◌, false, true, Option, Some, None, refl, sym, ◌∙◌, arith, lit<, lit≤}
use Rattle.std.proofs.lemmas.Bool.{eq-eqb}
use Rattle.history.specs.ArmLegal.{IsSound}
use Rattle.history.specs.Worked.{next_row, word}

pub sound_word : (t value : ℕ) → t < 2 → value < 10 → IsSound 2 32 t word value
sound_word t value known small = record { known = known; aligned = refl; inside = lit≤ tt; fits = omega arith }

pub sound_next_row : (t : ℕ) → t < 2 → IsSound 2 32 t next_row 1
sound_next_row t known = record { known = known; aligned = refl; inside = lit≤ tt; fits = lit< tt }

-- a plain write needs no mark
pub plain : (mark : Option ℕ) (row : ℕ) → false ≡ true → mark ≡ Some row
plain mark row h = absurd (let f : ⊥ = cc in f)

-- what is unmarked isn't marked on a row
pub unmarked : (row : ℕ) (mark : Option ℕ) → mark ≡ None → mark ≡ Some row → ⊥
unmarked row mark none some = let h : None ≡ Some row = sym none ∙ some in cc

-- two numbers that the test tells apart
pub apart : (m n : ℕ) → (m == n) ≡ false → m ≡ n → ⊥
apart m n differ same = let wrong : false ≡ true = sym differ ∙ eq-eqb m n same in cc

pub apart_rows : (m n : ℕ) → (m == n) ≡ false → Some m ≡ Some n → ⊥
apart_rows m n differ same = apart m n differ cc
