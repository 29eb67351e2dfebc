-- How a machine stands after what it does next, of whatever instruction set.
use Rattle.std.proofs.Common.{◌≡◌, Result, Ok, Err, refl, sym, subst}
use Rattle.llsc_base.specs.Images.{Program}
use Rattle.llsc_base.specs.declared.outside.Stop.{Stop}
use Rattle.llsc_base.specs.Effects.{EffectOf, asks, calls, completes, stops}
use Rattle.guest_core.specs.declared.phases.Wanted.{Wanted}
use Rattle.guest_core.specs.Phase.{PhaseOf, Between, Inside, Awaiting, Calling, Stopped}
use Rattle.guest_core.specs.Machine.{MachineOf, InstructionSet, wanted_of, moved_on, begins_of, after_found_of, next_in_of, next_of, after_in_of, after_of, AwaitsNothing, Follows}

module _ {I S : Type 0} (set : InstructionSet I S) where
  effect_follows : (instr : I) (machine : MachineOf I S) (effect : EffectOf S) → Follows machine (wanted_of effect) (moved_on instr machine effect)
  effect_follows instr machine (asks ask) = (tt, refl)
  effect_follows instr machine (calls call) = tt
  effect_follows instr machine (completes state) = refl
  effect_follows instr machine (stops stop) = tt

  begins_follows : (program : Program) (machine : MachineOf I S) (found : Result I Stop) → Follows machine (wanted_of (begins_of set program machine.state found)) (after_found_of set program machine found)
  begins_follows program machine (Ok instr) = effect_follows instr machine (set.begins instr program machine.state)
  begins_follows program machine (Err stop) = tt

  follows_in : (program : Program) (machine : MachineOf I S) (phase : PhaseOf I) → AwaitsNothing phase → Follows machine (wanted_of (next_in_of set program machine phase)) (after_in_of set program machine phase)
  follows_in program machine Between ready = begins_follows program machine (set.found program machine.state)
  follows_in program machine (Inside instr) ready = effect_follows instr machine (set.acts instr program machine.replies machine.state)
  follows_in program machine (Awaiting instr ask) ready = absurd ready
  follows_in program machine (Calling call) ready = absurd ready
  follows_in program machine (Stopped stop) ready = tt

  -- what follows is said of the values that a function gave
  told : (old : MachineOf I S) (v w : Wanted) (m n : MachineOf I S) → w ≡ v → n ≡ m → Follows old v m → Follows old w n
  told old v w m n same_w same_n known =
      subst (λ (x : Wanted). Follows old x n) (sym same_w) (subst (λ (x : MachineOf I S). Follows old v x) (sym same_n) known)

  -- after what a machine does next
  pub follows_of : (program : Program) (machine : MachineOf I S) (w : Wanted) (n : MachineOf I S) → AwaitsNothing machine.phase
      → w ≡ wanted_of (next_of set program machine) → n ≡ after_of set program machine → Follows machine w n
  follows_of program machine w n ready same_w same_n =
      told machine (wanted_of (next_of set program machine)) w (after_of set program machine) n same_w same_n (follows_in program machine machine.phase ready)
