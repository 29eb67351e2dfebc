-- Only proofs and inner contracts need these words.
-- What comes of an instruction that is kept ready, and which comes next.
use Rattle.std.specs.Prelude.{◌≡◌, ℕ, ◌+◌, true, false, Option, List}
use Rattle.llsc_base.specs.Images.{Program}
use Rattle.llsc_base.specs.Words.{low32}
use Rattle.llsc_base.specs.declared.outside.Ask.{Ask}
use Rattle.a32_instr.specs.Effect.{acts}
use Rattle.a32_instr.specs.State.{Effect}
use Rattle.a32_step.specs.declared.lowered.Lowered.{Lowered}
use Rattle.a32_step.specs.declared.phases.Came.{Came}
use Rattle.a32_step.specs.declared.phases.Came.TheVariants as came
use Rattle.a32_step.specs.declared.phases.Progress.TheVariants.{Complete, Held}
use Rattle.a32_step.specs.declared.rows.Row.{Row}
use Rattle.a32_step.specs.declared.rows.Row.TheVariants as row
use Rattle.a32_step.specs.RowActs.{is_met_row, is_whole, row_acts}
use Rattle.a32_step.specs.inner.Acting.{IsActed}
use Rattle.a32_step.specs.inner.ExecutionState.{ExecutionState}

-- An instruction of this effect acted over a source, and is complete or held; where the one behind it comes next, the PC says so.
pub data IsCome {S : Type 0} (replies : S → Ask → Option ℕ → S → Type 0) (effect : List ℕ → Effect) (old : ExecutionState) (from : S) : Came → ExecutionState → S → Type 0 where
  next : (new : ExecutionState) (to : S) → IsActed replies effect old from Complete new to → new.state.pc ≡ low32 (old.state.pc + 4)
      → IsCome replies effect old from came.Next new to
  jumped : (new : ExecutionState) (to : S) → IsActed replies effect old from Complete new to → IsCome replies effect old from came.Jumped new to
  held : (new : ExecutionState) (to : S) → IsActed replies effect old from Held new to → IsCome replies effect old from came.Held new to

-- What comes of a row: nothing was done where it wasn't met, nor where a condition passed, so that it does what its instruction does
-- whose condition has passed; or it acted.
pub data HasCome {S : Type 0} (replies : S → Ask → Option ℕ → S → Type 0) (r : Row) (kept : Lowered) (program : Program) (old : ExecutionState) (from : S)
    : Came → ExecutionState → S → Type 0 where
  unmet : r ≡ row.Unmet → HasCome replies r kept program old from came.Unmet old from
  passed : is_met_row r ≡ true → is_whole r ≡ false → ((had : List ℕ) → row_acts r kept program had old.state ≡ acts kept.instr program had old.state)
      → HasCome replies r kept program old from came.Passed old from
  acted : (c : Came) (new : ExecutionState) (to : S) → is_met_row r ≡ true → IsCome replies (λ had. row_acts r kept program had old.state) old from c new to
      → HasCome replies r kept program old from c new to
