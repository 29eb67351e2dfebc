-- What every shared memory keeps between any two of its steps: of what its passes know, and of the history so far.
use Rattle.std.specs.Prelude.{◌≡◌, ℕ, ◌<◌, ◌≤◌, Bool, List, []}
use mathlib.Core.Option.{some}
use lib.ListN.{get_elem?}
use Rattle.llsc_base.specs.Sizes.{Numbers}
use Rattle.history.specs.Memory.{IsMemory}
use Rattle.history.specs.Parts.{entries_of}
use Rattle.history.specs.Standing.{Standing, standing_after, standing_of}
use Rattle.history.specs.Follow.{MayFollow}
use Rattle.history.specs.declared.entry.Entry.{Entry}
use Rattle.shared_memory.specs.declared.views.View.{View}
use Rattle.shared_memory.specs.Seen.{IsFront, IsOneOf, SaysAllOf}
use Rattle.shared_memory.specs.Passes.{marked}

-- what was seen is a front of the history, and says all of these threads
pub record IsPart (numbers : List Bool) (seen history : List Entry) : Type 0 where
  pub front : IsFront seen history
  pub all : SaysAllOf (marked numbers) seen history

-- the parts of which a view was joined hold no numbers beside the view's own
pub record IsWithin (part numbers : List Bool) : Type 0 where
  pub own : (thread : ℕ) → IsOneOf thread (marked part) → IsOneOf thread (marked numbers)

-- what the view of a seat says is so. `knows` is the memory's own: what the thread of a view knows by what it is doing
pub record Fits {D : Type 0} (knows : Standing → ℕ → D → Type 0) (size : Numbers) (standing : Standing) (history : List Entry) (owner : ℕ → ℕ) (seat : ℕ) (view : View D) : Type 0 where
  pub part : IsPart view.numbers view.seen history
  pub left : IsPart view.left.numbers view.left.seen history
  pub right : IsPart view.right.numbers view.right.seen history
  pub left_within : IsWithin view.left.numbers view.numbers
  pub right_within : IsWithin view.right.numbers view.numbers
  pub owns : (thread : ℕ) → IsOneOf thread (marked view.numbers) → owner thread ≡ seat
  pub below : (thread : ℕ) → IsOneOf thread (marked view.numbers) → thread < size.threads
  pub knows_it : (thread : ℕ) → IsOneOf thread (marked view.numbers) → knows standing thread view.doing

-- a seat holds a thread's number
pub record IsHeld {D : Type 0} (views : List (View D)) (seat thread : ℕ) : Type 0 where
  pub view : View D
  pub at : get_elem? views seat ≡ some view
  pub has : IsOneOf thread (marked view.numbers)

-- there is one history, legal from memory's first bytes on, that leaves things so: each view fits it, each thread's number
-- is held by one seat, and no other thread stands in it
pub record Tells {D : Type 0} (knows : Standing → ℕ → D → Type 0) (size : Numbers) (bytes : List ℕ) (views : List (View D)) (history : List Entry) (standing : Standing) : Type 0 where
  pub memory : IsMemory size bytes
  pub standing_is : standing ≡ standing_after size (standing_of bytes) history
  pub follows : MayFollow size (standing_of bytes) history
  pub owner : ℕ → ℕ
  pub each : (seat : ℕ) (view : View D) → get_elem? views seat ≡ some view → Fits knows size standing history owner seat view
  pub held : (thread : ℕ) → thread < size.threads → IsHeld views (owner thread) thread
  pub outside : (thread : ℕ) → size.threads ≤ thread → entries_of thread history ≡ []
