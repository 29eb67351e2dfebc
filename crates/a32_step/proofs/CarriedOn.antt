-- A machine whose instruction was carried on over a port.
use Rattle.std.proofs.Common.{◌≡◌, ◌⊎◌, inl, inr, ℕ, Bool, true, false, if◌then◌else◌, Option, List, [], ◌∷◌, ◌++◌, Ok, refl, sym, ap, subst, ◌∙◌}
use Rattle.llsc_base.specs.Images.{Program}
use Rattle.a32_instr.specs.declared.instructions.Instr.{Instr}
use Rattle.llsc_base.specs.declared.outside.Ask.{Ask}
use Rattle.a32_instr.specs.Condition.{passes}
use Rattle.a32_instr.specs.State.{State, Effect, advanced}
use Rattle.llsc_base.specs.Effects.{asks, calls, completes, stops}
use Rattle.a32_instr.specs.Effect.{acts, condition_of, effect_of}
use Rattle.guest_core.specs.declared.phases.Passage.{Passage}
use Rattle.guest_core.specs.declared.phases.Passage.TheVariants.{Next, Jumped, Unmet}
use Rattle.a32_step.specs.inner.ExecutionState.{ExecutionState, resting, machine_in}
use Rattle.a32_step.specs.inner.ExecutionState as stage
use Rattle.a32_step.specs.Machine.{Machine, a32, instr_at, next_effect, after_next}
use Rattle.guest_core.specs.Machine.{between, moved_on, given, AwaitsNothing, IsHeld}
use Rattle.guest_core.specs.Ports.{Leads, goes, refused, stays}
use Rattle.a32_step.specs.inner.Acting.{IsGiven, begins, none_made, one_more, StandsAt, IsActed}
use Rattle.a32_step.specs.inner.Passages.{Comes, EndsAt, IsCarriedOn}
use Rattle.guest_core.specs.Passages.{CompletesAtOf, starts, replied}
use Rattle.guest_core.specs.inner.Passages.{in_hand, passage_of}
use Rattle.a32_step.specs.declared.phases.Progress.{Progress}
use Rattle.a32_step.specs.declared.phases.Progress.TheVariants as progress
use Rattle.a32_step.specs.inner.Progress.{progress_of}
use Rattle.a32_step.proofs.Acting.{acted_same}
use Rattle.a32_step.proofs.ExecutionStates.{is_resting}
use Rattle.a32_step.proofs.Replied.{inside, first_effect, first_after}

-- ---- between two instructions

-- an execution is at rest where its machine is
pub rests : (instr : Instr) (standing : ExecutionState) (state : State) → machine_in instr standing ≡ between state → standing ≡ resting standing.state
rests instr standing state is =
    let at : standing.stage ≡ stage.Between = is_resting instr standing (is ∙ ap between (sym (ap (λ (m : Machine). m.state) is))) in
    let none : standing.replies ≡ [] = ap (λ (m : Machine). m.replies) is in
    ap (λ s. record standing { stage = s }) at ∙ ap (λ rs. record standing { stage = stage.Between; replies = rs }) none

-- a core's next instruction was found
pub record IsFound (program : Program) (old : Machine) (standing : ExecutionState) (instr : Instr) : Type 0 where
  pub rest : standing ≡ resting standing.state
  pub begins_at : old ≡ between standing.state
  pub known : instr_at program standing.state.pc ≡ Ok instr

pub found : {program : Program} {old : Machine} {standing : ExecutionState} {instr : Instr} (slot : Instr) → machine_in slot standing ≡ old → old ≡ between old.state
    → instr_at program old.state.pc ≡ Ok instr → IsFound program old standing instr
found {program} {old = old} {standing = standing} slot is rest known = record {
  rest = rests slot standing old.state (is ∙ rest);
  begins_at = rest ∙ ap between (sym (ap (λ (m : Machine). m.state) is));
  known = ap (λ (m : Machine). instr_at program m.state.pc) is ∙ known;
}

-- ---- the machine after some replies

-- a port is led on by replies to accesses, by which the machine comes to where these were had
record IsReached {S : Type 0} (replies : S → Ask → Option ℕ → S → Type 0) (program : Program) (instr : Instr) (state : State) (from to : S) (had : List ℕ) : Type 0 where
  pairs : List (Ask × ℕ)
  leads : Leads replies from pairs to
  comes : Comes program (between state) pairs (in_hand instr state had)

module _ (program : Program) (instr : Instr) (state : State)
    (known : instr_at program state.pc ≡ Ok instr) (passed : passes (condition_of instr) state.flags ≡ true) where
  abbrev effect : List ℕ → Effect
  effect had = acts instr program had state

  next_is : (had : List ℕ) → next_effect program (in_hand instr state had) ≡ effect had
  next_is [] = first_effect program instr state known ∙ ap (λ b. if b then acts instr program [] state else completes (advanced state)) passed
  next_is (reply ∷ had) = refl

  given_on : (had : List ℕ) (ask : Ask) (reply : ℕ) → effect had ≡ asks ask → given (after_next program (in_hand instr state had)) reply ≡ in_hand instr state (had ++ reply ∷ [])
  given_on [] ask reply asked =
      let all : effect_of instr program [] state ≡ asks ask = ap (λ b. if b then acts instr program [] state else completes (advanced state)) passed ∙ asked in
      ap (λ m. given m reply) (first_after program instr state known ∙ ap (moved_on instr (between state)) all)
  given_on (first ∷ had) ask reply asked = ap (λ e. given (moved_on instr (inside instr state (first ∷ had)) e) reply) asked

  done_on : (had : List ℕ) (done : State) → effect had ≡ completes done → after_next program (in_hand instr state had) ≡ between done
  done_on [] done is =
      let all : effect_of instr program [] state ≡ completes done = ap (λ b. if b then acts instr program [] state else completes (advanced state)) passed ∙ is in
      first_after program instr state known ∙ ap (moved_on instr (between state)) all
  done_on (first ∷ had) done is = ap (moved_on instr (inside instr state (first ∷ had))) is

  reached : {S : Type 0} {replies : S → Ask → Option ℕ → S → Type 0} {from : S} {had : List ℕ} {to : S} → IsGiven replies effect [] from had to → IsReached replies program instr state from to had
  reached begins = record { pairs = []; leads = stays; comes = starts }
  reached (one_more had at next ask reply way asked served) =
      let before = reached way in
      record {
        pairs = before.pairs ++ (ask, reply) ∷ [];
        leads = goes before.pairs at next ask reply before.leads served;
        comes = subst (λ m. Comes program (between state) (before.pairs ++ (ask, reply) ∷ []) m) (given_on had ask reply asked)
            (replied before.pairs (in_hand instr state had) ask reply before.comes (next_is had ∙ asked));
      }
  reached (none_made had at next ask way asked served) =
      let before = reached way in
      record { pairs = before.pairs; leads = refused before.pairs at next ask before.leads served; comes = before.comes }

-- ---- how it was carried on

-- it goes on from where it came to
goes_on_at : (program : Program) (instr : Instr) (state : State) (had : List ℕ) → EndsAt program (in_hand instr state had) (passage_of had) (in_hand instr state had)
goes_on_at program instr state [] = (refl, tt)
goes_on_at program instr state (reply ∷ had) = (refl, tt)

-- it is complete, whichever comes next
abbrev pub IsThrough : Passage → Type 0
IsThrough passage = (passage ≡ Next) ⊎ (passage ≡ Jumped)

ends_through : (program : Program) (machine new : Machine) (passage : Passage) → IsThrough passage → CompletesAtOf a32 program machine new → EndsAt program machine passage new
ends_through program machine new passage (inl is) ends = subst (λ w. EndsAt program machine w new) (sym is) ends
ends_through program machine new passage (inr is) ends = subst (λ w. EndsAt program machine w new) (sym is) ends

module _ {S : Type 0} {replies : S → Ask → Option ℕ → S → Type 0} {program : Program} {old : Machine} {standing : ExecutionState} {instr : Instr} {from : S}
    (it : IsFound program old standing instr) where
  module _ {p : Progress} {acted : ExecutionState} {to : S} (holds : passes (condition_of instr) standing.state.flags ≡ true)
      (done : IsActed replies (λ had. acts instr program had standing.state) standing from p acted to) where
    abbrev does : List ℕ → Effect
    does had = acts instr program had standing.state

    way_to : IsReached replies program instr standing.state from to done.had
    way_to = reached program instr standing.state it.known holds
        (subst (λ first. IsGiven replies does first from done.had to) (ap (λ (s : ExecutionState). s.replies) it.rest) done.given)

    -- it is complete
    complete_at : (e : Effect) → does done.had ≡ e → progress_of e ≡ progress.Complete → StandsAt done.had standing e acted
        → (end : State) × (does done.had ≡ completes end) × (acted ≡ resting end)
    complete_at (asks ask) is full stands = cc
    complete_at (calls call) is full stands = cc
    complete_at (completes end) is full stands = (end, is, stands.1 it.rest)
    complete_at (stops stop) is full stands = cc

    carried_through : {passage : Passage} (slot : Instr) → IsThrough passage → p ≡ progress.Complete
        → IsCarriedOn replies program old from passage (machine_in slot acted) to × (acted ≡ resting acted.state)
    carried_through {passage} slot through full =
        let end = complete_at (does done.had) refl (sym done.came ∙ full) done.stands in
        let there : machine_in slot acted ≡ between end.0 = ap (machine_in slot) end.2 in (
          subst (λ m. IsCarriedOn replies program m from passage (machine_in slot acted) to) (sym it.begins_at) (record {
            pairs = way_to.pairs;
            machine = in_hand instr standing.state done.had;
            leads = way_to.leads;
            comes = way_to.comes;
            ends = ends_through program (in_hand instr standing.state done.had) (machine_in slot acted) passage through
                (end.0, next_is program instr standing.state it.known holds done.had ∙ end.1, there ∙ sym (done_on program instr standing.state it.known holds done.had end.0 end.1), there);
          }),
          end.2 ∙ ap resting (sym (ap (λ (s : ExecutionState). s.state) end.2)),
        )

    -- it is held, and goes on from there
    held_at : (e : Effect) → progress_of e ≡ progress.Held → StandsAt done.had standing e acted → (acted.state ≡ standing.state) × (acted.replies ≡ done.had)
    held_at (asks ask) held stands = (ap (λ (s : ExecutionState). s.state) stands, ap (λ (s : ExecutionState). s.replies) stands)
    held_at (calls call) held stands = (ap (λ (s : ExecutionState). s.state) stands, ap (λ (s : ExecutionState). s.replies) stands)
    held_at (completes end) held stands = cc
    held_at (stops stop) held stands = (ap (λ (s : ExecutionState). s.state) stands, ap (λ (s : ExecutionState). s.replies) stands)

    -- the instruction of its PC is still the same
    known_still : p ≡ progress.Held → instr_at program acted.state.pc ≡ Ok instr
    known_still held =
        let at = held_at (does done.had) (sym done.came ∙ held) done.stands in
        ap (λ (s : State). instr_at program s.pc) at.0 ∙ it.known

    put_there : {now : Machine} → p ≡ progress.Held → ((found : Instr) → instr_at program acted.state.pc ≡ Ok found → now ≡ in_hand found acted.state acted.replies)
        → now ≡ in_hand instr standing.state done.had
    put_there held now_is =
        let at = held_at (does done.had) (sym done.came ∙ held) done.stands in
        now_is instr (known_still held) ∙ ap (λ s. in_hand instr s acted.replies) at.0 ∙ ap (in_hand instr standing.state) at.1

    held_effect : (e : Effect) → progress_of e ≡ progress.Held → IsHeld e
    held_effect (asks ask) held = tt
    held_effect (calls call) held = tt
    held_effect (completes end) held = cc
    held_effect (stops stop) held = tt

    -- what it does next is what holds it
    held_next : {now : Machine} → p ≡ progress.Held → ((found : Instr) → instr_at program acted.state.pc ≡ Ok found → now ≡ in_hand found acted.state acted.replies)
        → IsHeld (next_effect program now)
    held_next held now_is =
        subst (λ m. IsHeld (next_effect program m)) (sym (put_there held now_is))
        (subst IsHeld (sym (next_is program instr standing.state it.known holds done.had)) (held_effect (does done.had) (sym done.came ∙ held)))

    carried_on : {passage : Passage} {now : Machine} → p ≡ progress.Held → passage ≡ passage_of acted.replies
        → ((found : Instr) → instr_at program acted.state.pc ≡ Ok found → now ≡ in_hand found acted.state acted.replies)
        → IsCarriedOn replies program old from passage now to
    carried_on {passage} {now} held passage_is now_is =
        let at = held_at (does done.had) (sym done.came ∙ held) done.stands in
        let there : now ≡ in_hand instr standing.state done.had = put_there held now_is in
        subst (λ m. IsCarriedOn replies program m from passage now to) (sym it.begins_at) (record {
          pairs = way_to.pairs;
          machine = in_hand instr standing.state done.had;
          leads = way_to.leads;
          comes = way_to.comes;
          ends = subst (λ w. EndsAt program (in_hand instr standing.state done.had) w now) (sym (passage_is ∙ ap passage_of at.1))
              (subst (λ m. EndsAt program (in_hand instr standing.state done.had) (passage_of done.had) m) (sym there) (goes_on_at program instr standing.state done.had));
        })

-- ---- with its condition

module _ (program : Program) (instr : Instr) (state : State) where
  abbrev whole : List ℕ → Effect
  whole had = effect_of instr program had state

  by_condition : (b : Bool) → passes (condition_of instr) state.flags ≡ b → (had : List ℕ)
      → whole had ≡ (if b then acts instr program had state else completes (advanced state))
  by_condition b is had = ap (λ b. if b then acts instr program had state else completes (advanced state)) is

  -- where the condition fails nothing is asked for
  none_asked : {S : Type 0} {replies : S → Ask → Option ℕ → S → Type 0} {from : S} → passes (condition_of instr) state.flags ≡ false → (had : List ℕ) (at : S)
      → IsGiven replies whole [] from had at → (had ≡ []) × (at ≡ from)
  none_asked fails _ _ begins = (refl, refl)
  none_asked fails _ _ (one_more had at next ask reply way asked served) = absurd (cc (by_condition false fails had, asked))
  none_asked fails _ _ (none_made had at next ask way asked served) = absurd (cc (by_condition false fails had, asked))

  passed_acted : {S : Type 0} {replies : S → Ask → Option ℕ → S → Type 0} {from : S} {standing acted : ExecutionState} {to : S} {p : Progress}
      → passes (condition_of instr) state.flags ≡ true → IsActed replies whole standing from p acted to → IsActed replies (λ had. acts instr program had state) standing from p acted to
  passed_acted holds done = acted_same (λ had. acts instr program had state) (λ had. sym (by_condition true holds had)) done

-- how an instruction goes on that isn't complete
pub record IsHeldOn {S : Type 0} (replies : S → Ask → Option ℕ → S → Type 0) (program : Program) (old : Machine) (from : S) (acted : ExecutionState) (to : S) (instr : Instr) : Type 0 where
  pub known : instr_at program acted.state.pc ≡ Ok instr
  pub next : {now : Machine} → ((found : Instr) → instr_at program acted.state.pc ≡ Ok found → now ≡ in_hand found acted.state acted.replies) → IsHeld (next_effect program now)
  pub carried : {passage : Passage} {now : Machine} → passage ≡ passage_of acted.replies
      → ((found : Instr) → instr_at program acted.state.pc ≡ Ok found → now ≡ in_hand found acted.state acted.replies) → IsCarriedOn replies program old from passage now to

module _ {S : Type 0} {replies : S → Ask → Option ℕ → S → Type 0} {program : Program} {old : Machine} {standing : ExecutionState} {instr : Instr} {from : S}
    (it : IsFound program old standing instr) {acted : ExecutionState} {to : S} where
  pub passed_through : {passage : Passage} (slot : Instr) → IsThrough passage → passes (condition_of instr) standing.state.flags ≡ true
      → IsActed replies (λ had. acts instr program had standing.state) standing from progress.Complete acted to
      → IsCarriedOn replies program old from passage (machine_in slot acted) to × (acted ≡ resting acted.state)
  passed_through slot through holds done = carried_through it holds done slot through refl

  pub passed_held : passes (condition_of instr) standing.state.flags ≡ true → IsActed replies (λ had. acts instr program had standing.state) standing from progress.Held acted to
      → IsHeldOn replies program old from acted to instr
  passed_held holds done = record {
    known = known_still it holds done refl;
    next = λ now_is. held_next it holds done refl now_is;
    carried = λ passage_is now_is. carried_on it holds done refl passage_is now_is;
  }

  passed_over : {passage : Passage} (slot : Instr) → IsThrough passage → passes (condition_of instr) standing.state.flags ≡ false
      → IsActed replies (whole program instr standing.state) standing from progress.Complete acted to
      → IsCarriedOn replies program old from passage (machine_in slot acted) to × (acted ≡ resting acted.state)
  passed_over {passage} slot through fails done =
      let first : IsGiven replies (whole program instr standing.state) [] from done.had to = subst (λ first. IsGiven replies (whole program instr standing.state) first from done.had to) (ap (λ (s : ExecutionState). s.replies) it.rest) done.given in
      let none = none_asked program instr standing.state fails done.had to first in
      let stands : StandsAt done.had standing (completes (advanced standing.state)) acted = subst (λ e. StandsAt done.had standing e acted) (by_condition program instr standing.state false fails done.had) done.stands in
      let end : acted ≡ resting (advanced standing.state) = stands.1 it.rest in
      let there : machine_in slot acted ≡ between (advanced standing.state) = ap (machine_in slot) end in
      let over : effect_of instr program [] standing.state ≡ completes (advanced standing.state) = by_condition program instr standing.state false fails [] in (
        subst (λ m. IsCarriedOn replies program m from passage (machine_in slot acted) to) (sym it.begins_at) (record {
          pairs = [];
          machine = between standing.state;
          leads = subst (λ at. Leads replies from [] at) (sym none.1) stays;
          comes = starts;
          ends = ends_through program (between standing.state) (machine_in slot acted) passage through (
            advanced standing.state,
            first_effect program instr standing.state it.known ∙ over,
            there ∙ sym (first_after program instr standing.state it.known ∙ ap (moved_on instr (between standing.state)) over),
            there,
          );
        }),
        end ∙ ap resting (sym (ap (λ (s : ExecutionState). s.state) end)),
      )

  through_by : {passage : Passage} (slot : Instr) → IsThrough passage → (b : Bool) → passes (condition_of instr) standing.state.flags ≡ b
      → IsActed replies (whole program instr standing.state) standing from progress.Complete acted to
      → IsCarriedOn replies program old from passage (machine_in slot acted) to × (acted ≡ resting acted.state)
  through_by slot through true holds done = passed_through slot through holds (passed_acted program instr standing.state holds done)
  through_by slot through false fails done = passed_over slot through fails done

  pub whole_through : {passage : Passage} (slot : Instr) → IsThrough passage → IsActed replies (whole program instr standing.state) standing from progress.Complete acted to
      → IsCarriedOn replies program old from passage (machine_in slot acted) to × (acted ≡ resting acted.state)
  whole_through slot through done = through_by slot through (passes (condition_of instr) standing.state.flags) refl done

  held_by : (b : Bool) → passes (condition_of instr) standing.state.flags ≡ b → IsActed replies (whole program instr standing.state) standing from progress.Held acted to → IsHeldOn replies program old from acted to instr
  held_by true holds done = passed_held holds (passed_acted program instr standing.state holds done)
  held_by false fails done = absurd (cc (done.came ∙ ap progress_of (by_condition program instr standing.state false fails done.had)))

  pub whole_held : IsActed replies (whole program instr standing.state) standing from progress.Held acted to → IsHeldOn replies program old from acted to instr
  whole_held done = held_by (passes (condition_of instr) standing.state.flags) refl done

-- ---- one that wasn't met

-- it is as it was
pub unmet_on : {S : Type 0} {replies : S → Ask → Option ℕ → S → Type 0} {program : Program} {old new : Machine} {from to : S} → old ≡ between old.state → new ≡ old → to ≡ from
    → IsCarriedOn replies program old from Unmet new to
unmet_on {replies = replies} {program} {old} {from = from} {to} rest new_is to_is =
    subst (λ m. IsCarriedOn replies program old from Unmet m to) (sym new_is)
    (subst (λ at. IsCarriedOn replies program old from Unmet old at) (sym to_is) (record {
      pairs = [];
      machine = old;
      leads = stays;
      comes = starts;
      ends = (refl, subst (λ (m : Machine). AwaitsNothing m.phase) (sym rest) tt);
    }))
