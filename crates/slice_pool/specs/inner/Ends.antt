-- Only proofs and inner contracts need these words beside those of `specs/Ends`.
-- How all guests ended, in order of number.
use Rattle.std.specs.Prelude.{◌≡◌, ◌+◌, ◌-◌, ℕ, Bool, List, sum_by}
use Rattle.std.specs.List.{range_with_len}
use Rattle.atomic_table.specs.Seated.{TableId}
use Rattle.history.specs.declared.entry.Entry.{Entry}
use Rattle.shared_memory.specs.Origin.{Origin}
use Rattle.a32_step.specs.Machine.{a32}
use Rattle.guest_thread.specs.inner.Crews.{AreEndsOf, AreTaken}
use Rattle.guest_thread.specs.declared.ends.GuestEnd.{GuestEnd}
use Rattle.slice_pool.specs.inner.Over.{weighs}
use Rattle.slice_pool.specs.declared.turns.Gone.{Gone}
use Rattle.slice_pool.specs.declared.views.Key.{Key}
use Rattle.slice_pool.specs.Ends.{AreTurnsOfEach}

-- 1 for a number, 0 for any other
abbrev pub one : ℕ → ℕ → ℕ
one t u = 1 - ((u - t) + (t - u))

-- these are the guests of so many numbers from one up, in whatever order
abbrev pub AreLeft : {P : Type 0} → ℕ → ℕ → List (Gone P) → Type 0
AreLeft t count done = (weight : ℕ → ℕ) → sum_by (weighs weight) done ≡ sum_by weight (range_with_len t count)

module _ {P : Type 0} (home : P → TableId) (numbers : P → ℕ → Bool) (seen : P → List Entry) where
  -- the threads below a number have ended, and the pass holds their numbers and has seen all of them
  pub record HaveEndedUpto (origin : Origin) (key : Key) (count : ℕ) (pass : P) (ends : List GuestEnd) (turns : List ℕ) : Type 0 where
    pub memory : home pass ≡ key.memory
    pub taken : AreTaken (numbers pass) (range_with_len 0 count)
    pub ends_are : AreEndsOf a32 key.program origin key.budget (seen pass) (range_with_len 0 count) ends
    pub turns_are : AreTurnsOfEach key.slice ends turns
