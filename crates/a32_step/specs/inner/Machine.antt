-- Only proofs and inner contracts need these words beside those of `specs/Machine`.
use Rattle.std.specs.Prelude.{◌≡◌, Result}
use Rattle.llsc_base.specs.Images.{Program}
use Rattle.a32_instr.specs.declared.instructions.Instr.{Instr}
use Rattle.llsc_base.specs.declared.outside.Stop.{Stop}
use Rattle.a32_instr.specs.State.{State, Effect}
use Rattle.guest_core.specs.Phase.{PhaseOf}
use Rattle.guest_core.specs.Machine.{begins_of, next_in_of, after_found_of, after_in_of}
use Rattle.guest_core.specs.inner.Machine.{IsInside}
use Rattle.a32_step.specs.Machine.{Machine, a32, next_effect, after_next}

-- where it stands in its instruction
abbrev pub Phase : Type 0
Phase = PhaseOf Instr

abbrev pub begins : Program → State → Result Instr Stop → Effect
begins = begins_of a32

abbrev pub next_in : Program → Machine → Phase → Effect
next_in = next_in_of a32

abbrev pub after_instr : Program → Machine → Result Instr Stop → Machine
after_instr = after_found_of a32

abbrev pub after_in : Program → Machine → Phase → Machine
after_in = after_in_of a32

-- a machine that is inside an instruction goes on as another one does
abbrev pub HasBegun : Program → Machine → Machine → Type 0
HasBegun program old new =
    IsInside new.phase × (next_effect program new ≡ next_effect program old) × (after_next program new ≡ after_next program old)
