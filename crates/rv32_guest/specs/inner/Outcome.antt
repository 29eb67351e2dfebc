-- Only proofs and inner contracts need these words.
-- What the code makes of an instruction, as the effect that it stands for.
use Rattle.std.specs.Prelude.{◌≡◌, ℕ, List, [], ◌∷◌, Option, Some, None}
use Rattle.llsc_base.specs.Effects.{calls, completes, stops}
use Rattle.rv32_guest.specs.State.{RvState, Effect}
use Rattle.rv32_guest.specs.declared.outcomes.Outcome.{Outcome}
use Rattle.rv32_guest.specs.declared.outcomes.Outcome.TheVariants.{Next, Jumps, Calls, Stops}

-- the effect of an outcome that leaves this state
abbrev pub effect_by : RvState → Outcome → Effect
effect_by state Next = completes state
effect_by state Jumps = completes state
effect_by state (Calls call) = calls call
effect_by state (Stops stop) = stops stop

-- the reply that an instruction has had, if any
abbrev pub replies_of : Option ℕ → List ℕ
replies_of None = []
replies_of (Some reply) = reply ∷ []

-- the state stays where the instruction isn't complete
abbrev pub Keeps : Outcome → RvState → RvState → Type 0
Keeps Next old new = Unit {0}
Keeps Jumps old new = Unit {0}
Keeps (Calls call) old new = new ≡ old
Keeps (Stops stop) old new = new ≡ old
