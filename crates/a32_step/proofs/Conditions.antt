-- What an instruction does with its condition.
use Rattle.std.proofs.Common.{◌≡◌, ℕ, if◌then◌else◌, true, false, refl, sym, ap, ◌∙◌}
use Rattle.llsc_base.specs.Effects.{completes}
use Rattle.llsc_base.specs.Words.{signed}
use Rattle.a32_instr.specs.Branch.{branches}
use Rattle.a32_instr.specs.Condition as condition
use Rattle.a32_instr.specs.Condition.{passes}
use Rattle.a32_instr.specs.Effect.{acts, condition_of}
use Rattle.a32_instr.specs.State.{advanced}
use Rattle.a32_instr.specs.declared.conditions.Flags.{Flags}
use Rattle.a32_instr.specs.declared.instructions.Instr.{Instr}
use Rattle.a32_step.specs.declared.kept.Kept.{Kept}
use Rattle.a32_step.specs.declared.rows.Row.{Row}
use Rattle.a32_step.specs.declared.rows.Row.TheVariants as row
use Rattle.a32_step.specs.RowActs.{row_acts, IsLoweredOf, IsKeptOf}
use Rattle.a32_step.specs.inner.Lowering.{DoesBranch, DoesUnder, DoesWhere}

always_passes : (flags : Flags) → passes 14 flags ≡ true
unfolding condition.passes
always_passes flags = refl

-- one that always holds
pub under_always : (cond : ℕ) (r : Row) → cond ≡ 14 → DoesUnder cond r r
under_always cond r is = λ kept program had state does.
    does ∙ sym (ap (λ b. if b then acts kept.instr program had state else completes (advanced state)) (ap (λ n. passes n state.flags) is ∙ always_passes state.flags))

-- of a branch
pub under_branch : (cond : ℕ) (r branch : Row) → r ≡ row.Branch → DoesBranch cond branch → DoesUnder cond r branch
under_branch cond r branch is branches = λ kept program had state does.
    branches kept program had state
    ∙ ap (λ e. if passes cond state.flags then e else completes (advanced state)) (ap (λ q. row_acts q kept program had state) (sym is) ∙ does)

-- a branch of the condition that always holds
pub branch_always : (cond : ℕ) → cond ≡ 14 → DoesBranch cond row.Branch
branch_always cond is = λ kept program had state.
    sym (ap (λ b. if b then branches false (signed kept.number) state else completes (advanced state)) (ap (λ n. passes n state.flags) is ∙ always_passes state.flags))

-- of any other
pub under_any : (cond : ℕ) (r under : Row) → DoesWhere cond under → DoesUnder cond r under
under_any cond r under does = λ kept program had state done. does kept program had state

pub kept_of : (instr : Instr) (kept : Kept) (cond : ℕ) → cond ≡ condition_of instr → IsLoweredOf instr kept.lowered → DoesUnder cond kept.lowered.row kept.row → IsKeptOf instr kept
kept_of instr kept cond cond_is lowered does = record {
  lowered = lowered;
  does = λ program had state.
      does kept.lowered program had state (lowered.does program had state)
      ∙ ap (λ i. if passes cond state.flags then acts i program had state else completes (advanced state)) lowered.instr_is
      ∙ ap (λ c. if passes c state.flags then acts instr program had state else completes (advanced state)) cond_is;
}
