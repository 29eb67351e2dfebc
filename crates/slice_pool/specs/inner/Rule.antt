-- Only proofs and inner contracts need these words beside those of `specs/Rule`.
-- The rule of the queue: which guests wait in it, and which the seats hold.
use Rattle.std.specs.Prelude.{◌≡◌, ◌≤◌, ◌<◌, ◌+◌, ◌-◌, ◌*◌, ℕ, All, Bool, List, [], ◌∷◌, sum_by}
use mathlib.Core.Option.{some}
use lib.ListN.{get_elem?}
use Rattle.atomic_table.specs.Seated.{TableId}
use Rattle.history.specs.declared.entry.Entry.{Entry}
use Rattle.shared_memory.specs.Seen.{IsSingle}
use Rattle.guest_core.specs.Machine.{between}
use Rattle.guest_calls.specs.Pairs.{pairs_of}
use Rattle.guest_calls.specs.Run.{Reaches}
use Rattle.guest_thread.specs.Counting.{AreCounts}
use Rattle.guest_thread.specs.Pieces.{CountFew, counts_by}
use Rattle.guest_thread.specs.Start.{thread_start}
use Rattle.slice_pool.specs.Hands.{downto, hand}
use Rattle.slice_pool.specs.inner.Hands.{AreFew, parts_of, share}
use Rattle.slice_pool.specs.declared.views.Hand.{Hand}
use Rattle.slice_pool.specs.declared.views.Key.{Key}
use Rattle.slice_pool.specs.declared.queue.Waiting.{Waiting}
use Rattle.a32_step.specs.Machine.{a32}

-- the weights of the numbers of guests that wait
abbrev pub waits : {P : Type 0} → (ℕ → ℕ) → Waiting P → ℕ
waits weight x = weight x.thread

-- a seat without a part holds nothing, and one with a part knows what the guests run by
pub record IsSeat (key : Key) (v : Hand) : Type 0 where
  pub idle : v.parts ≡ 0 → v.held ≡ []
  pub keyed : 1 ≤ v.parts → v.key ≡ key

-- each seat is
abbrev pub AreSeats : Key → List Hand → Type 0
AreSeats key views = (i : ℕ) (v : Hand) → get_elem? views i ≡ some v → IsSeat key v

-- who has all parts holds all guests but those that wait
abbrev pub AreAllBut : {P : Type 0} → Hand → List (Waiting P) → Type 0
AreAllBut v items = v.parts ≡ 8 → (weight : ℕ → ℕ) → sum_by (waits weight) items + sum_by weight v.held ≡ sum_by weight (downto v.key.size.threads)

-- what a memory says of a pass: which memory made it, which numbers it holds, and what it has seen
module _ {P : Type 0} (home : P → TableId) (numbers : P → ℕ → Bool) (seen : P → List Entry) where
  -- a guest between two of its slices, each of which had its steps: it has come so far from its start, with the accesses that
  -- its pass has seen; and a step of its budget is left, where it has one
  pub record IsGuestUnderWay (key : Key) (x : Waiting P) : Type 0 where
    pub memory : home x.part.pass ≡ key.memory
    pub single : IsSingle x.thread (numbers x.part.pass)
    pub known : x.thread < key.size.threads
    pub between : x.part.cpu ≡ between x.part.cpu.state
    pub reached : Reaches a32 key.program key.budget (thread_start a32 key.program key.size key.size.threads x.thread) (pairs_of x.thread (seen x.part.pass)) x.part.cpu x.part.steps x.part.out
    pub counts : AreCounts x.thread (seen x.part.pass) (counts_by x.part)
    pub few : CountFew (counts_by x.part) x.part.steps x.part.out
    pub turns : x.part.steps ≡ x.turns * key.slice
    pub within : x.part.steps ≤ key.budget - 1

  -- The numbers of the guests that wait and of those that the seats hold are all numbers of the machine, each once.
  pub record Keeps (items : List (Waiting P)) (views : List Hand) : Type 0 where
    pub key : Key
    pub parts : sum_by parts_of views ≡ 8
    pub once : (weight : ℕ → ℕ) → sum_by (waits weight) items + sum_by (share weight) views ≡ sum_by weight (downto key.size.threads)
    pub seats : AreSeats key views
    pub each : All (IsGuestUnderWay key) items

  -- a seat takes a guest: it's under way, and the seat held it not
  pub record HasTaken (v : Hand) (x : Waiting P) (w : Hand) : Type 0 where
    pub view : w ≡ hand v.parts (x.thread ∷ v.held) v.key
    pub under_way : IsGuestUnderWay v.key x
    pub few : AreFew v.key.size.threads (x.thread ∷ v.held)
