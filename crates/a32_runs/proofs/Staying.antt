-- A thread with a stock stays where it calls for a thread to be started.
use Rattle.std.proofs.Common.{◌≡◌, ◌==◌, ℕ, true, false, List, length, refl, sym, ap, ◌∙◌, eqb-true}
use Rattle.std.proofs.lemmas.Bool.{and_parts}
use Rattle.llsc_base.specs.Images.{Program}
use Rattle.llsc_base.specs.declared.outside.CallAsk.{CallAsk}
use Rattle.llsc_base.specs.Effects.{asks, calls, completes}
use Rattle.a32_step.specs.Machine.{Machine, next_effect, a32}
use Rattle.guest_calls.specs.Calls.{answers, call_effect, is_start_call, no_call, writes_bytes}
use Rattle.guest_calls.specs.Run.{Pair, first_point, begins, accesses, steps_on, returns, prints, ReachesBy, effect_of_call}

-- by the table of calls there is no such call
start_is_none : (call : CallAsk) (mem written : ℕ) → is_start_call call ≡ true → call_effect call mem written ≡ answers no_call
start_is_none call mem written starts =
    let both = and_parts (call.number == 0xF0001) (call.imm == 0) starts in
    let number : call.number ≡ 0xF0001 = eqb-true call.number 0xF0001 both.0 in
    let imm : call.imm ≡ 0 = eqb-true call.imm 0 both.1 in
    rw (number, imm) refl

pub record Stays (start machine : Machine) (steps : ℕ) : Type 0 where
  pub is : machine ≡ start
  pub none : steps ≡ 0

module _ (program : Program) (budget : ℕ) (start : Machine) (call : CallAsk) (at : next_effect program start ≡ calls call) (starts : is_start_call call ≡ true) where
  pub stays_at_start : (pairs : List Pair) (machine : Machine) (steps : ℕ) (output : List ℕ)
      → ReachesBy a32 true program budget (first_point start) pairs machine steps output → Stays start machine steps
  stays_at_start _ _ _ _ begins = record { is = refl; none = refl }
  stays_at_start _ _ _ _ (accesses pairs machine steps output ask reply reached less asked) =
      let still = stays_at_start pairs machine steps output reached in
      let wrong : asks ask ≡ calls call = sym asked ∙ ap (next_effect program) still.is ∙ at in absurd (let f : ⊥ = cc in f)
  stays_at_start _ _ _ _ (steps_on pairs machine steps output state reached less done) =
      let still = stays_at_start pairs machine steps output reached in
      let wrong : completes state ≡ calls call = sym done ∙ ap (next_effect program) still.is ∙ at in absurd (let f : ⊥ = cc in f)
  stays_at_start _ _ _ _ (returns pairs machine steps output other answer reached less called known plain) =
      let still = stays_at_start pairs machine steps output reached in
      let is : calls other ≡ calls call = sym called ∙ ap (next_effect program) still.is ∙ at in
      let same : other ≡ call = cc in
      let wrong : true ≡ false = sym starts ∙ ap is_start_call (sym same) ∙ plain in absurd (let f : ⊥ = cc in f)
  stays_at_start _ _ _ _ (prints pairs machine steps output other addr bytes reached less called known) =
      let still = stays_at_start pairs machine steps output reached in
      let is : calls other ≡ calls call = sym called ∙ ap (next_effect program) still.is ∙ at in
      let same : other ≡ call = cc in
      let none = start_is_none call (length program.bytes) (length output) starts in
      let wrong : answers no_call ≡ writes_bytes addr (length bytes) =
      sym none ∙ ap (λ (c : CallAsk). effect_of_call a32 program c (length output)) (sym same) ∙ known in absurd (let f : ⊥ = cc in f)
