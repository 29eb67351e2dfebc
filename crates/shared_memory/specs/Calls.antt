-- What a call of a shared memory asks of a pass, and what the pass has seen after it: this project's own.
use Rattle.std.specs.Prelude.{◌⊎◌, ℕ, Bool, List, []}
use Rattle.llsc_base.specs.declared.access.Place.{Place}
use Rattle.history.specs.Operation.{Operation, entries_of_operation, fail}
use Rattle.history.specs.Started.{MayAct}
use Rattle.history.specs.declared.entry.Cause.{Cause}
use Rattle.history.specs.declared.entry.Entry.{Entry}
use Rattle.shared_memory.specs.Origin.{Origin}
use Rattle.shared_memory.specs.Seen.{IsSingle, Sees}

-- a pass may be used: it holds one number alone, of a thread that may act by what the pass has seen
abbrev pub MayUse : Origin → (ℕ → Bool) → List Entry → Type 0
MayUse origin numbers seen = (t : ℕ) × IsSingle t numbers × (MayAct origin.first t seen)

-- the thread whose number a pass holds alone performs an operation: more of the history was seen, legal as a whole, and in what
-- was added the thread's entries are just the operation's
abbrev pub Performs : Origin → (ℕ → Bool) → List Entry → Operation → List Entry → Type 0
Performs origin numbers old operation new = (t : ℕ) → IsSingle t numbers → Sees origin t old (entries_of_operation t operation) new

-- it performs the one operation or the other
abbrev pub PerformsEither : Origin → (ℕ → Bool) → List Entry → Operation → Operation → List Entry → Type 0
PerformsEither origin numbers old one other new = (t : ℕ) → IsSingle t numbers
    → Sees origin t old (entries_of_operation t one) new ⊎ Sees origin t old (entries_of_operation t other) new

-- it performs a store-exclusive of a value to a place that fails, for some cause
abbrev pub FailsToStore : Origin → (ℕ → Bool) → List Entry → Place → ℕ → List Entry → Type 0
FailsToStore origin numbers old place value new = (t : ℕ) → IsSingle t numbers
    → (cause : Cause) × Sees origin t old (entries_of_operation t (fail place value cause)) new

-- it performs nothing: of the thread no entry was added
abbrev pub DoesNothing : Origin → (ℕ → Bool) → List Entry → List Entry → Type 0
DoesNothing origin numbers old new = (t : ℕ) → IsSingle t numbers → Sees origin t old [] new
