-- Only proofs and inner contracts need these words beside those of `specs/Machine`.
use Rattle.guest_core.specs.Phase.{PhaseOf, Between, Inside, Awaiting, Calling, Stopped}

-- it is between two instructions
abbrev pub IsBetween : {I : Type 0} → PhaseOf I → Type 0
IsBetween Between = Unit {0}
IsBetween (Inside instr) = ⊥
IsBetween (Awaiting instr ask) = ⊥
IsBetween (Calling call) = ⊥
IsBetween (Stopped stop) = ⊥

-- it is inside an instruction, and waits for nothing
abbrev pub IsInside : {I : Type 0} → PhaseOf I → Type 0
IsInside Between = ⊥
IsInside (Inside instr) = Unit {0}
IsInside (Awaiting instr ask) = ⊥
IsInside (Calling call) = ⊥
IsInside (Stopped stop) = ⊥
