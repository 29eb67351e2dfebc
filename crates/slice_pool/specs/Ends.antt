-- How many slices all guests take, in order of number.
use Rattle.std.specs.Prelude.{ℕ, List, [], ◌∷◌}
use Rattle.guest_thread.specs.declared.ends.GuestEnd.{GuestEnd}
use Rattle.slice_pool.specs.Over.{AreTurnsOf, last_step}

-- each guest ended in the last of its slices
abbrev pub AreTurnsOfEach : (slice : ℕ) → List GuestEnd → List ℕ → Type 0
AreTurnsOfEach slice [] [] = Unit {0}
AreTurnsOfEach slice [] (turns ∷ more) = ⊥
AreTurnsOfEach slice (end ∷ ends) [] = ⊥
AreTurnsOfEach slice (end ∷ ends) (turns ∷ more) = AreTurnsOf slice turns (last_step end.stop end.steps) × AreTurnsOfEach slice ends more
