-- A thread whose instructions are carried through over a port.
use Rattle.std.proofs.Common.{◌≡◌, ◌⊎◌, inl, inr, ℕ, ◌+◌, ◌<◌, ◌≤◌, List, [], ◌∷◌, ◌++◌, Option, Some, None, length, refl, sym, subst, ap, ◌∙◌, append_assoc, append-nil, arith, Bool}
use Rattle.std.proofs.lemmas.List.{length-append}
use Rattle.llsc_base.specs.Images.{Program}
use Rattle.llsc_base.specs.declared.outside.Ask.{Ask}
use Rattle.guest_core.specs.declared.phases.Passage.{Passage}
use Rattle.guest_core.specs.declared.phases.Passage.TheVariants.{AtStart, UnderWay}
use Rattle.guest_core.specs.declared.phases.Wanted.TheVariants as wanted
use Rattle.guest_core.specs.Machine.{MachineOf, InstructionSet, between, AwaitsNothing, IsAwaiting, after_of, given, given_in, wanted_of}
use Rattle.guest_core.specs.Phase.{PhaseOf, Between, Inside, Awaiting, Calling, Stopped}
use Rattle.guest_core.specs.Passages.{ComesOf, starts, replied, CompletesAtOf, EndsAtOf}
use Rattle.guest_core.specs.Ports.{Leads, goes, refused, stays}
use Rattle.guest_core.proofs.Follows.{follows_of}
use Rattle.guest_calls.specs.Run.{Pair, ReachesBy, accesses, steps_on, PointOf}
use Rattle.guest_calls.specs.Calls.{most_output}
use Rattle.guest_calls.proofs.FewAccesses.{given_one}
use Rattle.guest_thread.specs.Ports.{IsRunning}
use Rattle.guest_thread.specs.inner.Ports.{IsAtRest}
use Rattle.guest_thread.specs.ThreadState.{ThreadOf, IsReadyBy}
use Rattle.guest_thread.specs.Under.{HasComeFrom}
use Rattle.guest_thread.proofs.Reached.{come_by, reached_at, reached_by}

-- ---- how many accesses a port counts

pub leads_counted : {P : Type 0} (replies : P → Ask → Option ℕ → P → Type 0) (counted : P → ℕ) (from to : P) (pairs : List Pair)
    → ((old : P) (ask : Ask) (reply : ℕ) (new : P) → replies old ask (Some reply) new → counted new ≤ counted old + 1)
    → ((old : P) (ask : Ask) (new : P) → replies old ask None new → counted new ≤ counted old)
    → Leads replies from pairs to → counted to ≤ counted from + length pairs
leads_counted replies counted from _ _ one none stays = omega arith
leads_counted replies counted from _ _ one none (goes pairs at next ask reply leads served) =
    let before : counted at ≤ counted from + length pairs = leads_counted replies counted from at pairs one none leads in
    let here : counted next ≤ counted at + 1 = one at ask reply next served in
    let longer : length (pairs ++ (ask, reply) ∷ []) ≡ length pairs + 1 = length-append pairs ((ask, reply) ∷ []) in
    omega (arith, before, here, longer)
leads_counted replies counted from _ _ one none (refused pairs at next ask leads served) =
    let before : counted at ≤ counted from + length pairs = leads_counted replies counted from at pairs one none leads in
    let here : counted next ≤ counted at = none at ask next served in
    omega (arith, before, here)

module _ {I S : Type 0} (set : InstructionSet I S) where
  -- ---- how far its run has come

  pub come_on : (stocked : Bool) (program : Program) (budget : ℕ) (point : PointOf I S) (old : MachineOf I S) (before : List Pair) (steps : ℕ) (output : List ℕ) (pairs : List Pair) (machine : MachineOf I S)
      → ReachesBy set stocked program budget point before old steps output → steps < budget → ComesOf set program old pairs machine
      → ReachesBy set stocked program budget point (before ++ pairs) machine steps output
  come_on stocked program budget point old before steps output _ _ reached within starts =
      subst (λ all. ReachesBy set stocked program budget point all old steps output) (sym (append-nil before)) reached
  come_on stocked program budget point old before steps output _ _ reached within (replied pairs machine ask reply comes asked) =
      subst (λ all. ReachesBy set stocked program budget point all (given (after_of set program machine) reply) steps output) (append_assoc before pairs ((ask, reply) ∷ []))
      (accesses (before ++ pairs) machine steps output ask reply (come_on stocked program budget point old before steps output pairs machine reached within comes) within asked)

  -- ---- how many accesses it made

  given_ready : (machine : MachineOf I S) (reply : ℕ) (phase : PhaseOf I) → IsAwaiting phase → AwaitsNothing (given_in machine reply phase).phase
  given_ready machine reply Between awaits = absurd awaits
  given_ready machine reply (Inside instr) awaits = absurd awaits
  given_ready machine reply (Awaiting instr ask) awaits = tt
  given_ready machine reply (Calling call) awaits = absurd awaits
  given_ready machine reply (Stopped stop) awaits = absurd awaits

  -- each reply is one of its instruction's
  record HasReplies (old machine : MachineOf I S) (pairs : List Pair) : Type 0 where
    ready : AwaitsNothing machine.phase
    count : length machine.replies ≡ length old.replies + length pairs

  comes_counted : (program : Program) (old machine : MachineOf I S) (pairs : List Pair) → AwaitsNothing old.phase → ComesOf set program old pairs machine → HasReplies old machine pairs
  comes_counted program old _ _ first starts = record { ready = first; count = omega arith }
  comes_counted program old _ _ first (replied pairs machine ask reply comes asked) =
      let before = comes_counted program old machine pairs first comes in
      let follows = follows_of set program machine (wanted.Access ask) (after_of set program machine) before.ready (ap wanted_of (sym asked)) refl in
      let one : length (given (after_of set program machine) reply).replies ≡ length machine.replies + 1 =
      ap (λ rs. length rs) (given_one (after_of set program machine) reply (after_of set program machine).phase follows.0 ∙ ap (λ rs. rs ++ reply ∷ []) follows.1)
      ∙ length-append machine.replies (reply ∷ []) in
      let longer : length (pairs ++ (ask, reply) ∷ []) ≡ length pairs + 1 = length-append pairs ((ask, reply) ∷ []) in
      record {
        ready = given_ready (after_of set program machine) reply (after_of set program machine).phase follows.0;
        count = omega (arith, before.count, one, longer);
      }

  pub replies_counted : (program : Program) (old machine : MachineOf I S) (pairs : List Pair) → old ≡ between old.state → ComesOf set program old pairs machine
      → length machine.replies ≡ length pairs
  replies_counted program old machine pairs rest comes =
      let none : length old.replies ≡ 0 = ap (λ (m : MachineOf I S). length m.replies) rest in
      let all = comes_counted program old machine pairs (subst (λ (m : MachineOf I S). AwaitsNothing m.phase) (sym rest) tt) comes in
      omega (arith, none, all.count)

  -- ---- one instruction more, or a part of it

  pub part_ends : (program : Program) (machine new : MachineOf I S) (way : Passage) → (way ≡ AtStart) ⊎ (way ≡ UnderWay) → EndsAtOf set program machine way new
      → (new ≡ machine) × AwaitsNothing machine.phase
  part_ends program machine new way (inl is) ends = subst (λ w. EndsAtOf set program machine w new) is ends
  part_ends program machine new way (inr is) ends = subst (λ w. EndsAtOf set program machine w new) is ends

  -- a thread at rest, one instruction on
  pub at_rest_on : (program : Program) (machine : MachineOf I S) (new : ThreadOf I S) → new.printing ≡ None → CompletesAtOf set program machine new.cpu → IsAtRest new
  at_rest_on program machine new still ends =
      record { printing = still; between = ends.3 ∙ ap between (sym (ap (λ (m : MachineOf I S). m.state) ends.3)) }

  pub running_at : (mem budget : ℕ) (new : ThreadOf I S) → new.printing ≡ None → AwaitsNothing new.cpu.phase → new.steps ≤ budget
      → length new.cpu.replies ≤ 16 → length new.output ≤ most_output → IsRunning mem budget new
  running_at mem budget new still ready within few short = record {
    ready = subst (λ p. IsReadyBy mem budget new p) (sym still) (ready, within);
    bounded = record { replies = few; output = short };
  }

  module _ {P : Type 0} (replies : P → Ask → Option ℕ → P → Type 0) (program : Program) (budget : ℕ) (old new : ThreadOf I S) (from to : P)
      (rest : IsAtRest old) (within : old.steps < budget) (same : new.output ≡ old.output) (still : new.printing ≡ None) where
    -- it was complete
    pub after_one : (machine : MachineOf I S) (pairs : List Pair) → Leads replies from pairs to → ComesOf set program old.cpu pairs machine → CompletesAtOf set program machine new.cpu
        → new.steps ≡ old.steps + 1 → (stocked : Bool) (point : PointOf I S) (before : List Pair) → HasComeFrom set stocked program budget point before old
        → (pairs : List Pair) × (Leads replies from pairs to × HasComeFrom set stocked program budget point (before ++ pairs) new)
    after_one machine pairs leads comes ends more stocked point before come =
        let reached = come_on stocked program budget point old.cpu before old.steps old.output pairs machine (reached_by set stocked program budget point before old rest.printing come) within comes in (
          pairs,
          (
            leads,
            come_by set stocked program budget point (before ++ pairs) new still
                (reached_at set stocked program budget point new.cpu (after_of set program machine) (before ++ pairs) new.steps (old.steps + 1) new.output old.output
                ends.2 more same (steps_on (before ++ pairs) machine old.steps old.output ends.0 reached within ends.1)),
          ),
        )

    -- it wasn't
    pub after_part : (machine : MachineOf I S) (pairs : List Pair) → Leads replies from pairs to → ComesOf set program old.cpu pairs machine → new.cpu ≡ machine → new.steps ≡ old.steps
        → (stocked : Bool) (point : PointOf I S) (before : List Pair) → HasComeFrom set stocked program budget point before old
        → (pairs : List Pair) × (Leads replies from pairs to × HasComeFrom set stocked program budget point (before ++ pairs) new)
    after_part machine pairs leads comes is steps stocked point before come = (
      pairs,
      (
        leads,
        come_by set stocked program budget point (before ++ pairs) new still
            (reached_at set stocked program budget point new.cpu machine (before ++ pairs) new.steps old.steps new.output old.output is steps same
            (come_on stocked program budget point old.cpu before old.steps old.output pairs machine (reached_by set stocked program budget point before old rest.printing come) within comes)),
      ),
    )
