-- Only proofs and inner contracts need these words beside those of `specs/Over`.
-- A guest of a pool that has ended, and what comes of one slice.
use Rattle.std.specs.Prelude.{◌≡◌, ◌≤◌, ◌<◌, ◌+◌, ℕ, Bool, List, sum_by}
use Rattle.atomic_table.specs.Seated.{TableId}
use Rattle.history.specs.declared.entry.Entry.{Entry}
use Rattle.shared_memory.specs.Origin.{Origin}
use Rattle.shared_memory.specs.Seen.{IsSingle}
use Rattle.a32_step.specs.Machine.{a32}
use Rattle.guest_thread.specs.inner.Crews.{IsEndOf}
use Rattle.slice_pool.specs.Hands.{downto}
use Rattle.slice_pool.specs.inner.Rule.{IsGuestUnderWay}
use Rattle.slice_pool.specs.declared.queue.Waiting.{Waiting}
use Rattle.slice_pool.specs.declared.turns.Gone.{Gone}
use Rattle.slice_pool.specs.declared.turns.Turned.{Turned}
use Rattle.slice_pool.specs.declared.turns.Turned.TheVariants.{Over, Waits}
use Rattle.slice_pool.specs.declared.views.Key.{Key}
use Rattle.slice_pool.specs.Over.{AreTurnsOf, last_step}

-- up to how many steps a slice goes: it is whole, unless the budget is less
pub record IsUpto (slice budget steps upto : ℕ) : Type 0 where
  pub least : steps ≤ upto
  pub within : upto ≤ budget
  pub most : upto ≤ steps + slice
  pub whole : upto < budget → upto ≡ steps + slice

-- the weight of a guest that has ended
abbrev pub weighs : {P : Type 0} → (ℕ → ℕ) → Gone P → ℕ
weighs weight x = weight x.end.thread

-- the numbers of the guests that have ended are these, each as often
abbrev pub AreNumbersOf : {P : Type 0} → List ℕ → List (Gone P) → Type 0
AreNumbersOf held done = (weight : ℕ → ℕ) → sum_by (weighs weight) done ≡ sum_by weight held

-- all guests of a machine of so many threads have, each once
abbrev pub AreAllGone : {P : Type 0} → ℕ → List (Gone P) → Type 0
AreAllGone count done = AreNumbersOf (downto count) done

module _ {P : Type 0} (home : P → TableId) (numbers : P → ℕ → Bool) (seen : P → List Entry) where
  -- a guest has ended as its thread's run does by what its pass has seen, in the last of its slices
  pub record IsGone (origin : Origin) (key : Key) (x : Gone P) : Type 0 where
    pub memory : home x.pass ≡ key.memory
    pub single : IsSingle x.end.thread (numbers x.pass)
    pub known : x.end.thread < key.size.threads
    pub end : IsEndOf a32 key.program origin key.budget (seen x.pass) x.end.thread x.end
    pub turns : AreTurnsOf key.slice x.turns (last_step x.end.stop x.end.steps)

  -- and it was this one
  abbrev pub IsGoneFrom : Origin → Key → ℕ → Gone P → Type 0
  IsGoneFrom origin key t x = IsGone origin key x × (x.end.thread ≡ t)

  -- what comes of a slice
  abbrev pub HasTurned : Origin → Key → Waiting P → Turned P → Type 0
  HasTurned origin key guest (Over gone) = IsGoneFrom origin key guest.thread gone
  HasTurned origin key guest (Waits next) = IsGuestUnderWay home numbers seen key next × (next.thread ≡ guest.thread)
