-- What a row has come to, by which instruction comes next.
use Rattle.std.proofs.Common.{◌≡◌, ◌⊎◌, inl, inr, ℕ, ◌+◌, true, false, Option, List, refl, sym, ap, subst, ◌∙◌}
use Rattle.llsc_base.specs.Images.{Program}
use Rattle.llsc_base.specs.Words.{low32}
use Rattle.llsc_base.specs.declared.outside.Ask.{Ask}
use Rattle.a32_instr.specs.State.{Effect}
use Rattle.a32_step.specs.declared.lowered.Lowered.{Lowered}
use Rattle.a32_step.specs.declared.phases.Came.{Came}
use Rattle.a32_step.specs.declared.phases.Came.TheVariants as came
use Rattle.a32_step.specs.declared.phases.Progress.{Progress}
use Rattle.a32_step.specs.declared.phases.Progress.TheVariants as progress
use Rattle.a32_step.specs.declared.rows.Row.{Row}
use Rattle.a32_step.specs.declared.rows.Row.TheVariants as row
use Rattle.a32_step.specs.RowActs.{is_met_row, is_whole, row_acts, IsLoweredOf}
use Rattle.a32_step.proofs.Acting.{acted_same}
use Rattle.a32_step.specs.inner.Acting.{IsActed}
use Rattle.a32_step.specs.inner.Coming.{IsCome, next, jumped, held, HasCome, unmet, passed, acted}
use Rattle.a32_step.specs.inner.ExecutionState.{ExecutionState}

module _ {S : Type 0} {replies : S → Ask → Option ℕ → S → Type 0} {effect : List ℕ → Effect} {old : ExecutionState} {from : S} where
  next_is : (c : Came) (new : ExecutionState) (to : S) → IsCome replies effect old from c new to → c ≡ came.Next
      → IsActed replies effect old from progress.Complete new to × (new.state.pc ≡ low32 (old.state.pc + 4))
  next_is _ _ _ (next new to by at) is = (by, at)
  next_is _ _ _ (jumped new to by) is = absurd (cc (is))
  next_is _ _ _ (held new to by) is = absurd (cc (is))

  jumped_is : (c : Came) (new : ExecutionState) (to : S) → IsCome replies effect old from c new to → c ≡ came.Jumped → IsActed replies effect old from progress.Complete new to
  jumped_is _ _ _ (next new to by at) is = absurd (cc (is))
  jumped_is _ _ _ (jumped new to by) is = by
  jumped_is _ _ _ (held new to by) is = absurd (cc (is))

  held_is : (c : Came) (new : ExecutionState) (to : S) → IsCome replies effect old from c new to → c ≡ came.Held → IsActed replies effect old from progress.Held new to
  held_is _ _ _ (next new to by at) is = absurd (cc (is))
  held_is _ _ _ (jumped new to by) is = absurd (cc (is))
  held_is _ _ _ (held new to by) is = by

  not_passed : (c : Came) (new : ExecutionState) (to : S) → IsCome replies effect old from c new to → c ≡ came.Passed → ⊥
  not_passed _ _ _ (next new to by at) is = cc
  not_passed _ _ _ (jumped new to by) is = cc
  not_passed _ _ _ (held new to by) is = cc

  not_unmet : (c : Came) (new : ExecutionState) (to : S) → IsCome replies effect old from c new to → c ≡ came.Unmet → ⊥
  not_unmet _ _ _ (next new to by at) is = cc
  not_unmet _ _ _ (jumped new to by) is = cc
  not_unmet _ _ _ (held new to by) is = cc

module _ {S : Type 0} {replies : S → Ask → Option ℕ → S → Type 0} {r : Row} {kept : Lowered} {program : Program} {old : ExecutionState} {from : S} where
  pub come_next : (c : Came) (new : ExecutionState) (to : S) → HasCome replies r kept program old from c new to → c ≡ came.Next
      → (is_met_row r ≡ true) × IsActed replies (λ had. row_acts r kept program had old.state) old from progress.Complete new to × (new.state.pc ≡ low32 (old.state.pc + 4))
  come_next _ _ _ (unmet row_is) is = absurd (cc (is))
  come_next _ _ _ (passed met part holds) is = absurd (cc (is))
  come_next _ _ _ (acted c new to met come) is = (met, (next_is c new to come is).0, (next_is c new to come is).1)

  pub come_jumped : (c : Came) (new : ExecutionState) (to : S) → HasCome replies r kept program old from c new to → c ≡ came.Jumped
      → (is_met_row r ≡ true) × IsActed replies (λ had. row_acts r kept program had old.state) old from progress.Complete new to
  come_jumped _ _ _ (unmet row_is) is = absurd (cc (is))
  come_jumped _ _ _ (passed met part holds) is = absurd (cc (is))
  come_jumped _ _ _ (acted c new to met come) is = (met, jumped_is c new to come is)

  pub come_held : (c : Came) (new : ExecutionState) (to : S) → HasCome replies r kept program old from c new to → c ≡ came.Held
      → (is_met_row r ≡ true) × IsActed replies (λ had. row_acts r kept program had old.state) old from progress.Held new to
  come_held _ _ _ (unmet row_is) is = absurd (cc (is))
  come_held _ _ _ (passed met part holds) is = absurd (cc (is))
  come_held _ _ _ (acted c new to met come) is = (met, held_is c new to come is)

  pub come_unmet : (c : Came) (new : ExecutionState) (to : S) → HasCome replies r kept program old from c new to → c ≡ came.Unmet
      → (r ≡ row.Unmet) × (new ≡ old) × (to ≡ from)
  come_unmet _ _ _ (unmet row_is) is = (row_is, refl, refl)
  come_unmet _ _ _ (passed met part holds) is = absurd (cc (is))
  come_unmet _ _ _ (acted c new to met come) is = absurd (not_unmet c new to come is)

  pub come_complete : (c : Came) (new : ExecutionState) (to : S) → HasCome replies r kept program old from c new to → (c ≡ came.Next) ⊎ (c ≡ came.Jumped)
      → IsActed replies (λ had. row_acts r kept program had old.state) old from progress.Complete new to
  come_complete c new to come (inl is) = (come_next c new to come is).1
  come_complete c new to come (inr is) = (come_jumped c new to come is).1

  pub come_neither : (c : Came) (new : ExecutionState) (to : S) → is_whole r ≡ true → HasCome replies r kept program old from c new to → (c ≡ came.Unmet) ⊎ (c ≡ came.Passed) → ⊥
  come_neither _ _ _ whole (unmet row_is) is = absurd (cc (sym whole ∙ ap is_whole row_is))
  come_neither _ _ _ whole (passed met part holds) is = absurd (cc (sym whole ∙ part))
  come_neither _ _ _ whole (acted c new to met come) (inl is) = not_unmet c new to come is
  come_neither _ _ _ whole (acted c new to met come) (inr is) = not_passed c new to come is

-- ---- a row and then another, which does the same

-- it is the first, or one that tests no condition
abbrev pub IsOneOf : Row → Row → Type 0
IsOneOf first r = (r ≡ first) ⊎ ((is_whole r ≡ true) × (is_met_row first ≡ true))

unmet_first : (first r : Row) → IsOneOf first r → r ≡ row.Unmet → first ≡ row.Unmet
unmet_first first r (inl is) unmet_is = sym is ∙ unmet_is
unmet_first first r (inr is) unmet_is = absurd (cc (sym is.0 ∙ ap is_whole unmet_is))

met_first : (first r : Row) → IsOneOf first r → is_met_row r ≡ true → is_met_row first ≡ true
met_first first r (inl is) met = ap is_met_row (sym is) ∙ met
met_first first r (inr is) met = is.1

module _ {S : Type 0} {replies : S → Ask → Option ℕ → S → Type 0} (first r : Row) (kept : Lowered) (program : Program) (old : ExecutionState) {from : S}
    (does : (had : List ℕ) → row_acts r kept program had old.state ≡ row_acts first kept program had old.state) where
  first_acted : {p : Progress} {new : ExecutionState} {to : S} → IsActed replies (λ had. row_acts r kept program had old.state) old from p new to
      → IsActed replies (λ had. row_acts first kept program had old.state) old from p new to
  first_acted by = acted_same (λ had. row_acts first kept program had old.state) (λ had. sym (does had)) by

  first_come : (c : Came) (new : ExecutionState) (to : S) → IsCome replies (λ had. row_acts r kept program had old.state) old from c new to
      → IsCome replies (λ had. row_acts first kept program had old.state) old from c new to
  first_come _ _ _ (next new to by at) = next new to (first_acted by) at
  first_come _ _ _ (jumped new to by) = jumped new to (first_acted by)
  first_come _ _ _ (held new to by) = held new to (first_acted by)

  pub come_first : (c : Came) (new : ExecutionState) (to : S) → IsOneOf first r → (c ≡ came.Passed → ⊥) → HasCome replies r kept program old from c new to
      → HasCome replies first kept program old from c new to
  come_first _ _ _ one through (unmet row_is) = unmet (unmet_first first r one row_is)
  come_first _ _ _ one through (passed met part holds) = absurd (through refl)
  come_first _ _ _ one through (acted c new to met come) = acted c new to (met_first first r one met) (first_come c new to come)

-- after its condition the row of its instruction comes
pub record IsThen {S : Type 0} (first r : Row) (kept : Lowered) (program : Program) (old new : ExecutionState) (from to : S) : Type 0 where
  pub part : is_whole r ≡ false
  pub self : new ≡ old
  pub source : to ≡ from
  pub same : IsLoweredOf kept.instr kept → (had : List ℕ) → row_acts kept.row kept program had old.state ≡ row_acts first kept program had old.state
  pub one : IsLoweredOf kept.instr kept → IsOneOf first kept.row
  pub met : is_met_row first ≡ true

pub then_whole : {S : Type 0} {replies : S → Ask → Option ℕ → S → Type 0} (first r : Row) (kept : Lowered) (program : Program) (old : ExecutionState) {from : S}
    → ((had : List ℕ) → row_acts r kept program had old.state ≡ row_acts first kept program had old.state) → IsOneOf first r
    → (c : Came) (new : ExecutionState) (to : S) → HasCome replies r kept program old from c new to → c ≡ came.Passed → IsThen first r kept program old new from to
then_whole first r kept program old does one _ _ _ (unmet row_is) is = absurd (cc (is))
then_whole first r kept program old does one _ _ _ (passed met part holds) is = record {
  part = part;
  self = refl;
  source = refl;
  same = λ lowered had. lowered.does program had old.state ∙ sym (holds had) ∙ does had;
  one = λ lowered. inr (lowered.whole, met_first first r one met);
  met = met_first first r one met;
}
then_whole first r kept program old does one _ _ _ (acted c new to met come) is = absurd (not_passed c new to come is)

-- the row that was reached, where nothing was done before
module _ {S : Type 0} {replies : S → Ask → Option ℕ → S → Type 0} (first r : Row) (kept : Lowered) (program : Program) (old at : ExecutionState) {from standing : S}
    (self : at ≡ old) (source : standing ≡ from) (does : (had : List ℕ) → row_acts r kept program had old.state ≡ row_acts first kept program had old.state) (one : IsOneOf first r)
    (c : Came) (new : ExecutionState) (to : S) (come : HasCome replies r kept program at standing c new to) where
  come_there : HasCome replies r kept program old from c new to
  come_there = subst (λ s. HasCome replies r kept program s from c new to) self (subst (λ f. HasCome replies r kept program at f c new to) source come)

  pub kept_come : (c ≡ came.Passed → ⊥) → HasCome replies first kept program old from c new to
  kept_come through = come_first first r kept program old does c new to one through come_there

  pub kept_then : c ≡ came.Passed → IsThen first r kept program old new from to
  kept_then is = then_whole first r kept program old does one c new to come_there is
