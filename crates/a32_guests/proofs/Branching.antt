-- Branches on a number that was compared with 0, in any program (DDI 0406C A8.8.18, A8.8.37).
use Rattle.std.proofs.Common.{◌≡◌, ℕ, ◌+◌, ◌%◌, ◌^◌, ◌<◌, ◌==◌, true, false, not, if◌then◌else◌, ℤ, [], ap, arith, eq-eqb}
use Rattle.llsc_base.specs.Images.{Program}
use Rattle.a32_instr.specs.Branch.{branched, branches}
use Rattle.a32_instr.specs.Condition.{passes}
use Rattle.a32_instr.specs.Effect.{effect_of}
use Rattle.a32_instr.specs.State.{State, advanced}
use Rattle.llsc_base.specs.Effects.{completes}
use Rattle.a32_instr.specs.declared.instructions.Instr.TheVariants.{Branch}

-- BEQ goes to its target where Z is set, and else on behind itself
pub beq-jumps : (program : Program) (state : State) (words : ℤ) → state.flags.z ≡ true
    → effect_of (Branch 0 false words) program [] state ≡ completes (branched false words state)
unfolding passes
beq-jumps program state words set = ap (λ b. if b then branches false words state else completes (advanced state)) set

pub beq-falls : (program : Program) (state : State) (words : ℤ) → state.flags.z ≡ false
    → effect_of (Branch 0 false words) program [] state ≡ completes (advanced state)
unfolding passes
beq-falls program state words unset = ap (λ b. if b then branches false words state else completes (advanced state)) unset

-- BNE goes on behind itself where Z is set, and else to its target
pub bne-falls : (program : Program) (state : State) (words : ℤ) → state.flags.z ≡ true
    → effect_of (Branch 1 false words) program [] state ≡ completes (advanced state)
unfolding passes
bne-falls program state words set = ap (λ b. if not b then branches false words state else completes (advanced state)) set

pub bne-jumps : (program : Program) (state : State) (words : ℤ) → state.flags.z ≡ false
    → effect_of (Branch 1 false words) program [] state ≡ completes (branched false words state)
unfolding passes
bne-jumps program state words unset = ap (λ b. if not b then branches false words state else completes (advanced state)) unset

-- Z after CMP with 0, as the difference is made: of the number, the complement of 0, and a carry
pub zero_sets : (x : ℕ) → x ≡ 0 → ((x + 4294967295 + 1) % 2 ^ 32 == 0) ≡ true
zero_sets x same = eq-eqb _ 0 (omega (arith, same))

pub other_clears : (x : ℕ) → (x ≡ 0 → ⊥) → x < 2 ^ 32 → ((x + 4294967295 + 1) % 2 ^ 32 == 0) ≡ false
other_clears x other small = grind (arith, other, small)
