-- What a thread keeps by a turn, and how far it comes by a byte.
use Rattle.std.proofs.Common.{◌≡◌, ℕ, ◌+◌, ◌*◌, ◌≤◌, List, length, refl, sym, subst, ap, ◌∙◌, Result, Ok, Err}
use Rattle.llsc_base.specs.Images.{Program}
use Rattle.llsc_base.specs.declared.outside.CallAsk.{CallAsk}
use Rattle.llsc_base.specs.declared.outside.Stop.{Stop}
use Rattle.llsc_base.specs.Effects.{EffectOf, calls, stops}
use Rattle.guest_core.specs.Phase.{PhaseOf, Between, Inside, Awaiting, Calling, Stopped}
use Rattle.guest_core.specs.declared.phases.Wanted.TheVariants as wanted
use Rattle.guest_core.specs.Machine.{MachineOf, begins_of, moved_on, after_found_of, next_in_of, after_in_of, next_of, after_of, wanted_of, InstructionSet}
use Rattle.guest_calls.specs.Calls.{most_output}
use Rattle.guest_thread.specs.Progress.{HasKept, IsBounded, headway_of}
use Rattle.guest_thread.specs.ThreadState.{ThreadOf}
use Rattle.guest_thread.proofs.Effects.{effect_calls, effect_stops}

module _ {I S : Type 0} (set : InstructionSet I S) where
  -- ---- an instruction that calls or stops keeps its replies

  -- one that has this effect
  by_instr : (program : Program) (machine : MachineOf I S) (effect : EffectOf S) (instr : Result (I) Stop)
      → ((known : I) → (moved_on known machine effect).replies ≡ machine.replies)
      → begins_of set program machine.state instr ≡ effect → (after_found_of set program machine instr).replies ≡ machine.replies
  by_instr program machine effect (Ok instr) keeps is = ap (λ e. (moved_on instr machine e).replies) is ∙ keeps instr
  by_instr program machine effect (Err stop) keeps is = refl

  by_phase : (program : Program) (machine : MachineOf I S) (effect : EffectOf S) (phase : PhaseOf I)
      → ((known : I) → (moved_on known machine effect).replies ≡ machine.replies)
      → next_in_of set program machine phase ≡ effect → (after_in_of set program machine phase).replies ≡ machine.replies
  by_phase program machine effect Between keeps is = by_instr program machine effect (set.found program machine.state) keeps is
  by_phase program machine effect (Inside instr) keeps is = ap (λ e. (moved_on instr machine e).replies) is ∙ keeps instr
  by_phase program machine effect (Awaiting instr ask) keeps is = refl
  by_phase program machine effect (Calling call) keeps is = refl
  by_phase program machine effect (Stopped stop) keeps is = refl

  pub calling_keeps : (program : Program) (machine moved : MachineOf I S) (call : CallAsk) → wanted.Call call ≡ wanted_of (next_of set program machine)
      → moved ≡ after_of set program machine → moved.replies ≡ machine.replies
  calling_keeps program machine moved call wants is =
      ap (λ (m : MachineOf I S). m.replies) is
      ∙ by_phase program machine (calls call) machine.phase (λ instr. refl) (effect_calls (next_of set program machine) call wants)

  pub stopping_keeps : (program : Program) (machine moved : MachineOf I S) (stop : Stop) → wanted.Stopped stop ≡ wanted_of (next_of set program machine)
      → moved ≡ after_of set program machine → moved.replies ≡ machine.replies
  stopping_keeps program machine moved stop wants is =
      ap (λ (m : MachineOf I S). m.replies) is
      ∙ by_phase program machine (stops stop) machine.phase (λ instr. refl) (effect_stops (next_of set program machine) stop wants)

  -- ---- what is kept from a place that has come just as far is kept

  as_far : (here there : ThreadOf I S) → there.cpu.replies ≡ here.cpu.replies → there.steps ≡ here.steps → there.output ≡ here.output
      → headway_of there ≡ headway_of here
  as_far here there replies steps output =
      ap (λ (n : ℕ). 17 * n + length there.cpu.replies + length there.output) steps
      ∙ ap (λ (r : List ℕ). 17 * here.steps + length r + length there.output) replies
      ∙ ap (λ (o : List ℕ). 17 * here.steps + length here.cpu.replies + length o) output

  pub keeps_on : (here there new : ThreadOf I S) → there.cpu.replies ≡ here.cpu.replies → there.steps ≡ here.steps → there.output ≡ here.output
      → (IsBounded there → HasKept there new) → IsBounded here → HasKept here new
  keeps_on here there new replies steps output keeps bounded =
      let kept : HasKept there new = keeps record {
        replies = subst (λ (r : List ℕ). length r ≤ 16) (sym replies) bounded.replies;
        output = subst (λ (o : List ℕ). length o ≤ most_output) (sym output) bounded.output;
      } in
      record {
        bounded = kept.bounded;
        later = subst (λ (n : ℕ). n ≤ headway_of new) (as_far here there replies steps output) kept.later;
      }
