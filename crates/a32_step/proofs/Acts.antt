-- An instruction that acts as its variant does.
use Rattle.std.proofs.Common.{◌≡◌, ℕ, Option, ap}
use Rattle.llsc_base.specs.Images.{Program}
use Rattle.llsc_base.specs.declared.outside.Ask.{Ask}
use Rattle.a32_instr.specs.declared.instructions.Instr.{Instr}
use Rattle.a32_instr.specs.Effect.{acts}
use Rattle.a32_step.specs.declared.phases.Progress.{Progress}
use Rattle.a32_step.specs.inner.Progress.{progress_of}
use Rattle.a32_step.specs.inner.ExecutionState.{ExecutionState, moves}
use Rattle.a32_step.specs.inner.Acting.{IsActed}
use Rattle.a32_step.proofs.Acting.{acted_at_once, acted_same}

module _ {S : Type 0} {replies : S → Ask → Option ℕ → S → Type 0} (program : Program) (old : ExecutionState) {from : S} {instr variant : Instr} (is : instr ≡ variant) {p : Progress} {new : ExecutionState} where
  pub acted : {to : S} → IsActed replies (λ had. acts variant program had old.state) old from p new to → IsActed replies (λ had. acts instr program had old.state) old from p new to
  acted by = acted_same (λ had. acts instr program had old.state) (λ had. ap (λ i. acts i program had old.state) is) by

  -- one that asks for nothing
  pub acted_now : p ≡ progress_of (acts variant program old.replies old.state) → new ≡ moves old (acts variant program old.replies old.state)
      → IsActed replies (λ had. acts instr program had old.state) old from p new from
  acted_now same moved = acted (acted_at_once (λ had. acts variant program had old.state) same moved)
