-- Only proofs and inner contracts need these words beside those of `specs/Passages`.
use Rattle.std.specs.Prelude.{ℕ, List, [], ◌∷◌}
use Rattle.guest_core.specs.declared.phases.Passage.{Passage}
use Rattle.guest_core.specs.declared.phases.Passage.TheVariants.{AtStart, UnderWay}
use Rattle.guest_core.specs.Machine.{MachineOf, between}
use Rattle.guest_core.specs.Phase as phase

-- a machine that goes on in an instruction after these replies; where it has had none, between two instructions
abbrev pub in_hand : {I S : Type 0} → I → S → List ℕ → MachineOf I S
in_hand instr state [] = between state
in_hand instr state (reply ∷ had) = record { state = state; phase = phase.Inside instr; replies = reply ∷ had }

-- how far an instruction has come that is not complete with these replies
abbrev pub passage_of : List ℕ → Passage
passage_of [] = AtStart
passage_of (reply ∷ had) = UnderWay
