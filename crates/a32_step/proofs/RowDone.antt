-- What a row comes to, whose registers aren't the PC.
use Rattle.std.proofs.Common.{◌≡◌, ◌⊎◌, inl, inr, ℕ, zero, suc, ◌+◌, ◌*◌, ◌^◌, ◌%◌, ◌<◌, ◌==◌, mul-one, if◌then◌else◌, Bool, true, false, Option, List, slice_index, refl, sym, ap, subst, ◌∙◌, arith}
use Rattle.std.proofs.lemmas.Bool.{ne_eqb}
use Rattle.a32_instr.specs.declared.arithmetic.Computed.{Computed}
use Rattle.a32_instr.specs.declared.arithmetic.Shifted.{Shifted}
use Rattle.a32_instr.specs.declared.instructions.AluOp.{AluOp}
use Rattle.a32_instr.specs.Fields.{is_compare}
use Rattle.a32_instr.specs.State.{State, advanced, register, with_register, writes}
use Rattle.a32_instr.specs.DataProcessing.{alu_done}
use Rattle.a32_instr.specs.Shift as shift
use Rattle.a32_instr.specs.Shift.{moved_by, shifted_by_0, shifted_by_number}
use Rattle.a32_instr.specs.declared.instructions.ShiftKind.TheVariants.{Lsl}
use Rattle.std.proofs.Math.Nat.{mod-eq_of_lt}
use Rattle.a32_instr.specs.declared.instructions.ShiftKind.{ShiftKind}
use Rattle.a32_instr.specs.Effect.{acts}
use Rattle.llsc_base.specs.Effects.{completes}
use Rattle.llsc_base.specs.Words.{low32}
use Rattle.llsc_base.specs.Images.{Program}
use Rattle.llsc_base.specs.declared.outside.Ask.{Ask}
use Rattle.a32_step.specs.declared.lowered.Lowered.{Lowered}
use Rattle.a32_step.specs.declared.rows.Row.{Row}
use Rattle.a32_step.specs.declared.phases.Came.{Came}
use Rattle.a32_step.specs.declared.phases.Came.TheVariants as came
use Rattle.a32_step.specs.declared.phases.Progress.{Progress}
use Rattle.a32_step.specs.declared.phases.Progress.TheVariants as progress
use Rattle.a32_step.specs.inner.Coming.{IsCome, next, jumped, held, HasCome, passed, acted}
use Rattle.a32_instr.specs.Condition.{passes}
use Rattle.a32_step.specs.RowActs.{acts_where, is_met_row, is_whole, row_acts, shift_in, shifted_in}
use Rattle.a32_step.specs.inner.Progress.{progress_of}
use Rattle.a32_step.specs.inner.ExecutionState.{ExecutionState, moves}
use Rattle.a32_step.specs.inner.Acting.{IsActed}
use Rattle.a32_step.proofs.Acting.{acted_at_once, acted_same}

pub not_pc : (d : ℕ) → d < 15 → (d == 15) ≡ false
not_pc d low = ne_eqb d 15 (λ is. omega arith)

choose : {A : Type 0} (b : Bool) (x y : A) → b ≡ false → (if b then x else y) ≡ y
choose true x y is = absurd (cc (is))
choose false x y is = refl

choose_first : {A : Type 0} (b : Bool) (x y : A) → b ≡ true → (if b then x else y) ≡ x
choose_first true x y is = refl
choose_first false x y is = absurd (cc (is))

-- a register that isn't the PC is read as it is
pub register_low : (state : State) (r : ℕ) → r < 15 → register state r ≡ slice_index state.regs r
register_low state r low = choose (r == 15) (low32 (state.pc + 8)) (slice_index state.regs r) (not_pc r low)

pub writes_low : (state : State) (d value : ℕ) → d < 15 → writes state d value ≡ completes (advanced (with_register state d value))
writes_low state d value low = choose (d == 15) _ (completes (advanced (with_register state d value))) (not_pc d low)

-- a value in a register that isn't the PC
pub put_done : (state : State) (d value v : ℕ) → d < 15 → value ≡ v → writes state d v ≡ completes (advanced (with_register state d value))
put_done state d value v low is = writes_low state d v low ∙ ap (λ v. completes (advanced (with_register state d v))) (sym is)

pub data_done : (op : AluOp) (d : ℕ) (result : Computed) (state : State) (value : ℕ) → is_compare op ≡ false → d < 15 → value ≡ result.value
    → alu_done op false d result state ≡ completes (advanced (with_register state d value))
data_done op d result state value other low is =
    choose (is_compare op) _ (writes state d result.value) other ∙ writes_low state d result.value low ∙ ap (λ v. completes (advanced (with_register state d v))) (sym is)

pub setting_done : (op : AluOp) (d : ℕ) (result : Computed) (state : State) → is_compare op ≡ false → d < 15
    → alu_done op true d result state ≡ completes (advanced (with_register (record state { flags = result.flags }) d result.value))
setting_done op d result state other low =
    choose (is_compare op) _ (writes (record state { flags = result.flags }) d result.value) other ∙ writes_low (record state { flags = result.flags }) d result.value low

pub compare_done : (op : AluOp) (d : ℕ) (result : Computed) (state : State) → is_compare op ≡ true
    → alu_done op true d result state ≡ completes (advanced (record state { flags = result.flags }))
compare_done op d result state is = choose_first (is_compare op) _ _ is

-- a register shifted left by any number below 32
pub left_by : (x n : ℕ) (c : Bool) → x < 2 ^ 32 → x * 2 ^ n % 2 ^ 32 ≡ (shifted_by_number Lsl x n c).value
unfolding shift.shifted_left
left_by x zero c small = ap (λ (m : ℕ). m % 2 ^ 32) (mul-one x) ∙ mod-eq_of_lt small
left_by x (suc n) c small =
    sym (ap (λ (s : Shifted). s.value) (choose (suc n == 0) (shifted_by_0 Lsl x c) (moved_by Lsl x (suc n)) (ne_eqb (suc n) 0 (λ is. omega (is, arith)))))

-- a shift by a number that isn't 0
pub shift_same : (kind : ShiftKind) (kept : Lowered) (amount : ℕ) (state : State) → kept.kind ≡ kind → kept.amount ≡ amount → (amount ≡ 0 → ⊥) → shift_in kind kept state ≡ shifted_in kept state
shift_same kind kept amount state kind_is amount_is some =
    ap (λ k. moved_by k (slice_index state.regs kept.m) kept.amount) (sym kind_is)
    ∙ sym (choose (kept.amount == 0) (shifted_by_0 kept.kind (slice_index state.regs kept.m) state.flags.c) (moved_by kept.kind (slice_index state.regs kept.m) kept.amount)
    (ne_eqb kept.amount 0 (λ none. some (sym amount_is ∙ none))))

-- ---- what comes of a row

met_by : {r variant : Row} → r ≡ variant → is_met_row variant ≡ true → is_met_row r ≡ true
met_by row_is met = ap is_met_row row_is ∙ met

module _ {S : Type 0} {replies : S → Ask → Option ℕ → S → Type 0} (kept : Lowered) (program : Program) (old : ExecutionState) {from : S} {r variant : Row} (row_is : r ≡ variant) where
  acted_row : {p : Progress} {new : ExecutionState} {to : S} → IsActed replies (λ had. row_acts variant kept program had old.state) old from p new to
      → IsActed replies (λ had. row_acts r kept program had old.state) old from p new to
  acted_row by = acted_same (λ had. row_acts r kept program had old.state) (λ had. ap (λ q. row_acts q kept program had old.state) row_is) by

  come_row : (c : Came) (new : ExecutionState) (to : S) → IsCome replies (λ had. row_acts variant kept program had old.state) old from c new to
      → IsCome replies (λ had. row_acts r kept program had old.state) old from c new to
  come_row _ _ _ (next new to by at) = next new to (acted_row by) at
  come_row _ _ _ (jumped new to by) = jumped new to (acted_row by)
  come_row _ _ _ (held new to by) = held new to (acted_row by)

  -- one that makes accesses
  pub came_by : {c : Came} {new : ExecutionState} {to : S} → is_met_row variant ≡ true → IsCome replies (λ had. row_acts variant kept program had old.state) old from c new to
      → HasCome replies r kept program old from c new to
  came_by {c} {new} {to} met by = acted c new to (met_by row_is met) (come_row c new to by)

  module _ {new : ExecutionState} (met : is_met_row variant ≡ true) (full : progress_of (row_acts variant kept program old.replies old.state) ≡ progress.Complete)
      (moved : new ≡ moves old (row_acts variant kept program old.replies old.state)) where
    at_once : IsActed replies (λ had. row_acts variant kept program had old.state) old from progress.Complete new from
    at_once = acted_at_once (λ had. row_acts variant kept program had old.state) (sym full) moved

    -- one that makes none, and goes on behind itself
    pub came_next : {c : Came} → c ≡ came.Next → new.state.pc ≡ low32 (old.state.pc + 4) → HasCome replies r kept program old from c new from
    came_next is at = subst (λ c. HasCome replies r kept program old from c new from) (sym is) (came_by met (next new from at_once at))

    -- one that makes none, and goes on anywhere
    pub came_jumped : {c : Came} → c ≡ came.Jumped → HasCome replies r kept program old from c new from
    came_jumped is = subst (λ c. HasCome replies r kept program old from c new from) (sym is) (came_by met (jumped new from at_once))

    pub came_either : {c : Came} → (c ≡ came.Next) ⊎ (c ≡ came.Jumped) → (c ≡ came.Next → new.state.pc ≡ low32 (old.state.pc + 4)) → HasCome replies r kept program old from c new from
    came_either (inl is) at = came_next is (at is)
    came_either (inr is) at = came_jumped is

-- ---- what comes of a condition

module _ {S : Type 0} {replies : S → Ask → Option ℕ → S → Type 0} (kept : Lowered) (program : Program) (old : ExecutionState) {from : S} {r variant : Row}
    (row_is : r ≡ variant) (cond : ℕ) (met : is_met_row variant ≡ true) (part : is_whole variant ≡ false)
    (does : (had : List ℕ) → row_acts variant kept program had old.state ≡ acts_where cond kept program had old.state) {new : ExecutionState} where
  tried_by : {c : Came} (b : Bool) → passes cond old.state.flags ≡ b → (b ≡ true → (c ≡ came.Passed) × (new ≡ old))
      → (b ≡ false → (c ≡ came.Next) × (new ≡ record old { state = advanced old.state })) → HasCome replies r kept program old from c new from
  tried_by true is passing failing =
      let by = passing refl in
      subst (λ c. HasCome replies r kept program old from c new from) (sym by.0)
      (subst (λ s. HasCome replies r kept program old from came.Passed s from) (sym by.1)
      (passed (met_by row_is met) (ap is_whole row_is ∙ part) (λ had. ap (λ q. row_acts q kept program had old.state) row_is ∙ does had
      ∙ ap (λ b. if b then acts kept.instr program had old.state else completes (advanced old.state)) is)))
  tried_by false is passing failing =
      let by = failing refl in
      let over : row_acts variant kept program old.replies old.state ≡ completes (advanced old.state) =
      does old.replies ∙ ap (λ b. if b then acts kept.instr program old.replies old.state else completes (advanced old.state)) is in
      came_next kept program old row_is met (ap progress_of over) (by.1 ∙ ap (moves old) (sym over)) by.0 (ap (λ (s : ExecutionState). s.state.pc) by.1)

  pub tried : {c : Came} → (passes cond old.state.flags ≡ true → (c ≡ came.Passed) × (new ≡ old))
      → (passes cond old.state.flags ≡ false → (c ≡ came.Next) × (new ≡ record old { state = advanced old.state })) → HasCome replies r kept program old from c new from
  tried passing failing = tried_by (passes cond old.state.flags) refl passing failing
