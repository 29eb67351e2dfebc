-- A machine whose instruction was carried through over a port.
use Rattle.std.proofs.Common.{◌≡◌, ℕ, Option, Some, None, List, [], ◌∷◌, Ok, IfNone, refl, sym, ap, subst, ◌∙◌}
use Rattle.llsc_base.specs.Images.{Program}
use Rattle.llsc_base.specs.declared.outside.Ask.{Ask}
use Rattle.llsc_base.specs.Effects.{asks, completes}
use Rattle.guest_core.specs.declared.phases.Passage.{Passage}
use Rattle.guest_core.specs.declared.phases.Passage.TheVariants.{Next, Jumped, AtStart, UnderWay, Unmet}
use Rattle.guest_core.specs.Phase as phase
use Rattle.guest_core.specs.Machine.{after_found_of, after_of, begins_of, between, given, moved_on, next_of, AwaitsNothing, PassesTests}
use Rattle.guest_core.specs.Passages.{ComesOf, CompletesAtOf, EndsAtOf, IsCarriedOnOf, starts, replied}
use Rattle.guest_core.specs.Ports.{Leads, goes, refused, stays}
use Rattle.guest_core.specs.inner.Asking.{asked_first}
use Rattle.guest_core.proofs.Asked.{asked_passed}
use Rattle.rv32_guest.specs.declared.cpu.Stage.TheVariants as stage
use Rattle.rv32_guest.specs.declared.cpu.RvCpu.TheInside as fields
use Rattle.rv32_guest.specs.declared.instructions.RvInstr.{RvInstr}
use Rattle.rv32_guest.specs.Effect.{acts}
use Rattle.rv32_guest.specs.inner.Carrying.{IsCarriedAlone, IsCarriedBy, IsDone, IsHeldAt, at_once, by_reply}
use Rattle.rv32_guest.specs.inner.Inside.{machine_of}
use Rattle.rv32_guest.specs.Machine.{Machine, instr_at, rv32}
use Rattle.rv32_guest.specs.inner.Outcome.{replies_of}
use Rattle.rv32_guest.specs.State.{RvState, Effect}
use Rattle.rv32_guest.proofs.Resting.{is_resting}

-- ---- between two instructions

none_had : (reply : Option ℕ) → replies_of reply ≡ [] → reply ≡ None
none_had None is = refl
none_had (Some reply) is = cc

-- with other registers a core that is between two instructions still is
pub with_registers : (inside : fields.Inside) (old : Machine) (state now : RvState) → machine_of inside ≡ old → old ≡ between state
    → machine_of (record inside { registers = now }) ≡ between now
with_registers inside old state now is rest =
    let whole : machine_of inside ≡ between state = is ∙ rest in
    let at : inside.stage ≡ stage.Between = is_resting inside.instr inside.stage (machine_of inside) refl (whole ∙ ap between (sym (ap (λ (m : Machine). m.state) whole))) in
    let none : inside.reply ≡ None = none_had inside.reply (ap (λ (m : Machine). m.replies) whole) in
    ap (λ s. machine_of (record inside { registers = now; stage = s })) at
    ∙ ap (λ r. machine_of (record inside { registers = now; stage = stage.Between; reply = r })) none

-- a core's next instruction was found
pub record IsFound (program : Program) (old : Machine) (state : RvState) (instr : RvInstr) : Type 0 where
  pub begins_at : old ≡ between state
  pub known : instr_at program state.pc ≡ Ok instr

pub found : {program : Program} {old : Machine} {instr : RvInstr} (inside : fields.Inside) → machine_of inside ≡ old → old ≡ between old.state
    → instr_at program old.state.pc ≡ Ok instr → IsFound program old inside.registers instr
found {program} inside is rest known = record {
  begins_at = rest ∙ ap between (sym (ap (λ (m : Machine). m.state) is));
  known = ap (λ (m : Machine). instr_at program m.state.pc) is ∙ known;
}

-- ---- what the registers were carried through

-- where no reply comes
pub leads_none : {P : Type 0} (replies : P → Ask → Option ℕ → P → Type 0) {from to : P} (ask : Ask) (reply : Option ℕ) → replies from ask reply to → IfNone reply (Leads replies from [] to)
leads_none replies {from = from} {to = to} ask None served = refused [] from to ask stays served
leads_none replies ask (Some reply) served = tt

module _ {P : Type 0} {replies : P → Ask → Option ℕ → P → Type 0} {does : List ℕ → Effect} {from to : P} where
  -- an access that nothing barred was made, and the instruction is complete with the reply
  pub served_on : {now : RvState} (program : Program) (ask : Ask) (reply : ℕ) → does [] ≡ asked_first program ask → PassesTests program ask → replies from ask (Some reply) to
      → does (reply ∷ []) ≡ completes now → IsDone replies does from now to
  served_on program ask reply first passes served is = by_reply to ask reply (first ∙ asked_passed program ask passes) served is

-- an instruction that made no access
pub carried_alone : {P : Type 0} (replies : P → Ask → Option ℕ → P → Type 0) (from : P) (old now : RvState) (instr : RvInstr) (program : Program) (passage : Passage)
    → IsCarriedAlone (λ p. acts instr p [] old) old passage now → IsCarriedBy replies (λ had. acts instr program had old) old from passage now from
carried_alone replies from old now instr program Next is = at_once (is program)
carried_alone replies from old now instr program Jumped is = at_once (is program)
carried_alone replies from old now instr program AtStart is = record { state = is.0; held = is.1 program; leads = stays }
carried_alone replies from old now instr program UnderWay is = is
carried_alone replies from old now instr program Unmet is = is

-- one that is another
pub carried_as : {P : Type 0} (replies : P → Ask → Option ℕ → P → Type 0) (from to : P) (program : Program) (old now : RvState) {instr other : RvInstr} (passage : Passage) → instr ≡ other
    → IsCarriedBy replies (λ had. acts other program had old) old from passage now to → IsCarriedBy replies (λ had. acts instr program had old) old from passage now to
carried_as replies from to program old now passage same is =
    subst (λ i. IsCarriedBy replies (λ had. acts i program had old) old from passage now to) (sym same) is

-- one of another number, as of an address
pub carried_at : {P : Type 0} (replies : P → Ask → Option ℕ → P → Type 0) (from to : P) (old now : RvState) (passage : Passage) (does : ℕ → List ℕ → Effect) {x y : ℕ} → x ≡ y
    → IsCarriedBy replies (does x) old from passage now to → IsCarriedBy replies (does y) old from passage now to
carried_at replies from to old now passage does same is = subst (λ n. IsCarriedBy replies (does n) old from passage now to) same is

-- ---- what the machine was carried through

-- an instruction that wasn't met does nothing
pub unmet_on : {P : Type 0} {replies : P → Ask → Option ℕ → P → Type 0} {program : Program} {old : Machine} {from : P} → old ≡ between old.state
    → IsCarriedOnOf rv32 replies program old from Unmet old from
unmet_on {old = old} rest = record {
  pairs = [];
  machine = old;
  leads = stays;
  comes = starts;
  ends = (refl, subst (λ (m : Machine). AwaitsNothing m.phase) (sym rest) tt);
}

module _ {program : Program} {old : Machine} {state : RvState} {instr : RvInstr} (it : IsFound program old state instr) where
  abbrev does_with : List ℕ → Effect
  does_with had = acts instr program had state

  first_effect : next_of rv32 program (between state) ≡ does_with []
  first_effect = ap (begins_of rv32 program state) it.known

  first_after : after_of rv32 program (between state) ≡ moved_on instr (between state) (does_with [])
  first_after = ap (after_found_of rv32 program (between state)) it.known

  -- with the reply to its access
  with_reply : ℕ → Machine
  with_reply reply = record { state = state; phase = phase.Inside instr; replies = reply ∷ [] }

  given_on : (ask : Ask) (reply : ℕ) → does_with [] ≡ asks ask → given (after_of rv32 program (between state)) reply ≡ with_reply reply
  unfolding with_reply
  given_on ask reply asked = ap (λ m. given m reply) (first_after ∙ ap (moved_on instr (between state)) asked)

  completes_with : (reply : ℕ) (done : RvState) (new : Machine) → does_with (reply ∷ []) ≡ completes done → new ≡ between done → CompletesAtOf rv32 program (with_reply reply) new
  unfolding with_reply
  completes_with reply done new is now_is = (done, is, now_is ∙ sym (ap (moved_on instr (with_reply reply)) is), now_is)

  module _ {P : Type 0} {replies : P → Ask → Option ℕ → P → Type 0} {from : P} {new : Machine} {now : RvState} (now_is : new ≡ between now) where
    -- it was complete at once, or with the reply
    done_on : {to : P} (passage : Passage) → ((machine : Machine) → CompletesAtOf rv32 program machine new → EndsAtOf rv32 program machine passage new)
        → IsDone replies (λ had. acts instr program had state) from now to → IsCarriedOnOf rv32 replies program old from passage new to
    done_on passage ends (at_once is) =
        subst (λ m. IsCarriedOnOf rv32 replies program m from passage new from) (sym it.begins_at) (record {
          pairs = [];
          machine = between state;
          leads = stays;
          comes = starts;
          ends = ends (between state) (now, first_effect ∙ is, now_is ∙ sym (first_after ∙ ap (moved_on instr (between state)) is), now_is);
        })
    done_on passage ends (by_reply to ask reply asked served is) =
        subst (λ m. IsCarriedOnOf rv32 replies program m from passage new to) (sym it.begins_at) (record {
          pairs = (ask, reply) ∷ [];
          machine = with_reply reply;
          leads = goes [] from to ask reply stays served;
          comes = subst (λ m. ComesOf rv32 program (between state) ((ask, reply) ∷ []) m) (given_on ask reply asked) (replied [] (between state) ask reply starts (first_effect ∙ asked));
          ends = ends (with_reply reply) (completes_with reply now new is now_is);
        })

    -- it was held at its start
    held_on : {to : P} → IsHeldAt replies (λ had. acts instr program had state) state from now to → IsCarriedOnOf rv32 replies program old from AtStart new to
    held_on held = record {
      pairs = [];
      machine = old;
      leads = held.leads;
      comes = starts;
      ends = (now_is ∙ ap between held.state ∙ sym it.begins_at, subst (λ (m : Machine). AwaitsNothing m.phase) (sym it.begins_at) tt);
    }

    -- the machine was carried through what the registers were
    pub carried_on : {to : P} (passage : Passage) → IsCarriedBy replies (λ had. acts instr program had state) state from passage now to → IsCarriedOnOf rv32 replies program old from passage new to
    carried_on Next done = done_on Next (λ machine ends. ends) done
    carried_on Jumped done = done_on Jumped (λ machine ends. ends) done
    carried_on AtStart held = held_on held
    carried_on UnderWay none = absurd none
    carried_on Unmet none = absurd none
