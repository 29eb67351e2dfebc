-- Marks of which none is on a row.
use Rattle.std.proofs.Common.{◌≡◌, ℕ, zero, suc, false, List, [], ◌∷◌, Option, Some, None, map, replicate, refl, ap}
use Rattle.history.specs.Monitor.{is_some_marked, unless_on}

-- none are marked at first
pub replicate_unmarked : (n : ℕ) → is_some_marked (replicate n None) ≡ false
replicate_unmarked zero = refl
replicate_unmarked (suc n) = replicate_unmarked n

-- there are none to be ended
pub ended_unmarked : (marks : List (Option ℕ)) (row : ℕ) → is_some_marked marks ≡ false → map (unless_on row) marks ≡ marks
ended_unmarked [] row h = refl
ended_unmarked (None ∷ marks) row h = ap (λ rest. None ∷ rest) (ended_unmarked marks row h)
ended_unmarked (Some marked ∷ marks) row h = absurd (let e : ⊥ = cc in e)
