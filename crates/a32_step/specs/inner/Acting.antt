-- Only proofs and inner contracts need these words.
-- An instruction that acts over whoever replies to its accesses.
use Rattle.std.specs.Prelude.{◌≡◌, ℕ, Bool, true, false, Option, Some, None, List, [], ◌∷◌, ◌++◌, slice_get}
use Rattle.llsc_base.specs.Images.{Program}
use Rattle.llsc_base.specs.declared.access.Size.TheVariants.{B4}
use Rattle.llsc_base.specs.declared.outside.Ask.{Ask}
use Rattle.llsc_base.specs.declared.outside.Ask.TheVariants.{Load, Store}
use Rattle.llsc_base.specs.declared.outside.Stop.{Stop}
use Rattle.a32_instr.specs.State.{State, Effect, register}
use Rattle.llsc_base.specs.Effects.{asks, calls, completes, stops}
use Rattle.a32_step.specs.declared.phases.Progress.{Progress}
use Rattle.a32_step.specs.inner.ExecutionState.{ExecutionState, Awaiting, Calling, Stopped, resting}
use Rattle.guest_core.specs.Machine.{PassesTests}
use Rattle.guest_core.specs.Asking.{stop_of}
use Rattle.a32_step.specs.inner.Progress.{progress_of}

-- nobody replies
abbrev pub IsSilent : {S : Type 0} → S → Ask → Option ℕ → S → Type 0
IsSilent from ask None to = to ≡ from
IsSilent from ask (Some reply) to = ⊥

-- ---- all of its accesses

-- Replies, of which the first were had before. A source is led on by the others, each to what the effect asks for after those
-- before it, and by an access to which it replied nothing.
pub data IsGiven {S : Type 0} (replies : S → Ask → Option ℕ → S → Type 0) (effect : List ℕ → Effect) (first : List ℕ) (from : S) : List ℕ → S → Type 0 where
  begins : IsGiven replies effect first from first from
  one_more : (had : List ℕ) (at next : S) (ask : Ask) (reply : ℕ)
      → IsGiven replies effect first from had at → effect had ≡ asks ask → replies at ask (Some reply) next
      → IsGiven replies effect first from (had ++ reply ∷ []) next
  none_made : (had : List ℕ) (at next : S) (ask : Ask)
      → IsGiven replies effect first from had at → effect had ≡ asks ask → replies at ask None next
      → IsGiven replies effect first from had next

-- Where an instruction of this effect stands after these replies. One that is complete has its state; it is over where it began at
-- rest, and else its stage and replies are left to `settled`.
abbrev pub StandsAt : List ℕ → ExecutionState → Effect → ExecutionState → Type 0
StandsAt had old (asks ask) new = new ≡ record old { stage = Awaiting ask; replies = had }
StandsAt had old (calls call) new = new ≡ record old { stage = Calling call; replies = had }
StandsAt had old (completes state) new = (new.state ≡ state) × (old ≡ resting old.state → new ≡ resting state)
StandsAt had old (stops stop) new = new ≡ record old { stage = Stopped stop; replies = had }

-- an instruction of this effect acted over a source, as far as it came
pub record IsActed {S : Type 0} (replies : S → Ask → Option ℕ → S → Type 0) (effect : List ℕ → Effect) (old : ExecutionState) (from : S) (progress : Progress)
    (new : ExecutionState) (to : S) : Type 0 where
  pub had : List ℕ
  pub given : IsGiven replies effect old.replies from had to
  pub came : progress ≡ progress_of (effect had)
  pub stands : StandsAt had old (effect had) new

-- ---- one access

-- What comes of its access: the reply that it had before, or that of the source, and the instruction stands as it was; or none, and
-- it waits, or the access is barred, and the thread stops.
pub data IsReplied {S : Type 0} (replies : S → Ask → Option ℕ → S → Type 0) (program : Program) (ask : Ask) (old : ExecutionState) (from : S) : Option ℕ → ExecutionState → S → Type 0 where
  had_before : (reply : ℕ) → slice_get old.replies 0 ≡ Some reply → IsReplied replies program ask old from (Some reply) old from
  replied : (reply : ℕ) (to : S) → slice_get old.replies 0 ≡ None → PassesTests program ask → replies from ask (Some reply) to → IsReplied replies program ask old from (Some reply) old to
  unmade : (to : S) → slice_get old.replies 0 ≡ None → PassesTests program ask → replies from ask None to
      → IsReplied replies program ask old from None (record old { stage = Awaiting ask }) to
  barred : (stop : Stop) → slice_get old.replies 0 ≡ None → stop_of program ask ≡ Some stop
      → IsReplied replies program ask old from None (record old { stage = Stopped stop }) from

-- the replies that it has had then: those from before, if there are any
abbrev pub with_reply : ℕ → List ℕ → List ℕ
with_reply reply [] = reply ∷ []
with_reply reply (first ∷ had) = first ∷ had

-- ---- a block's accesses

-- the access of a register's word at an address
abbrev pub word_ask : Bool → ℕ → ℕ → State → Ask
word_ask true addr r state = Load (record { addr = addr; size = B4 })
word_ask false addr r state = Store (record { addr = addr; size = B4 }) (register state r)
