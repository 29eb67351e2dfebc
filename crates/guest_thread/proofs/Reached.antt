-- What a thread comes to by an instruction, by a stop and by a reply.
use Rattle.std.proofs.Common.{◌≡◌, ℕ, ◌+◌, ◌<◌, List, [], ◌∷◌, ◌++◌, sym, ap, ◌∙◌, subst, None, Bool}
use Rattle.llsc_base.specs.Images.{Program}
use Rattle.llsc_base.specs.declared.outside.Ask.{Ask}
use Rattle.llsc_base.specs.declared.outside.Stop.{Stop}
use Rattle.llsc_base.specs.declared.outside.Stop.TheVariants as stop
use Rattle.guest_core.specs.declared.phases.Wanted.TheVariants as wanted
use Rattle.guest_core.specs.Machine.{MachineOf, next_of, after_of, given, wanted_of, InstructionSet}
use Rattle.guest_calls.specs.Run.{Pair, ReachesBy, EndsFrom, accesses, steps_on, halts, spends, asks_access, PointOf}
use Rattle.guest_thread.specs.declared.guests.Event.TheVariants as event
use Rattle.guest_thread.specs.declared.guests.Turn.TheVariants as turn
use Rattle.guest_thread.specs.ThreadState.{ThreadOf}
use Rattle.guest_thread.specs.Under.{HasComeFrom, HasComeBy, AwaitsFrom, AwaitsBy, ComesToFrom}
use Rattle.guest_thread.specs.inner.Under.{ComesToEvent}
use Rattle.guest_thread.proofs.Effects.{effect_asks, effect_stops, effect_completes}

module _ {I S : Type 0} (set : InstructionSet I S) where
  -- a thread that isn't in the middle of a write has come to where its core is
  pub reached_by : (stocked : Bool) (program : Program) (budget : ℕ) (point : PointOf I S) (pairs : List Pair) (standing : ThreadOf I S) → standing.printing ≡ None
      → HasComeFrom set stocked program budget point pairs standing → ReachesBy set stocked program budget point pairs standing.cpu standing.steps standing.output
  reached_by stocked program budget point pairs standing none come = subst (λ p. HasComeBy set stocked program budget point pairs standing p) none come

  pub come_by : (stocked : Bool) (program : Program) (budget : ℕ) (point : PointOf I S) (pairs : List Pair) (standing : ThreadOf I S) → standing.printing ≡ None
      → ReachesBy set stocked program budget point pairs standing.cpu standing.steps standing.output → HasComeFrom set stocked program budget point pairs standing
  come_by stocked program budget point pairs standing none reached = subst (λ p. HasComeBy set stocked program budget point pairs standing p) (sym none) reached

  -- the same place of a run
  pub reached_at : (stocked : Bool) (program : Program) (budget : ℕ) (point : PointOf I S) (machine other : MachineOf I S) (pairs : List Pair) (steps count : ℕ) (output text : List ℕ)
      → machine ≡ other → steps ≡ count → output ≡ text
      → ReachesBy set stocked program budget point pairs other count text → ReachesBy set stocked program budget point pairs machine steps output
  reached_at stocked program budget point machine other pairs steps count output text cpu step out reached =
      subst (λ m. ReachesBy set stocked program budget point pairs m steps output) (sym cpu)
      (subst (λ n. ReachesBy set stocked program budget point pairs other n output) (sym step)
      (subst (λ o. ReachesBy set stocked program budget point pairs other count o) (sym out) reached))

  -- ---- by an instruction

  -- one that asks for an access
  pub after_asking : (stocked : Bool) (program : Program) (budget : ℕ) (point : PointOf I S) (pairs : List Pair) (ask : Ask) (old new : ThreadOf I S)
      → HasComeFrom set stocked program budget point pairs old → old.steps < budget → old.printing ≡ None → new.printing ≡ None
      → wanted.Access ask ≡ wanted_of (next_of set program old.cpu) → new.cpu ≡ after_of set program old.cpu
      → new.steps ≡ old.steps → new.output ≡ old.output
      → ComesToFrom set stocked program budget point pairs (turn.Asks ask) new
  after_asking stocked program budget point pairs ask old new come less none still wants moved steps output =
      let reached = reached_by stocked program budget point pairs old none come in
      let asked = effect_asks (next_of set program old.cpu) ask wants in (
        asks_access pairs old.cpu old.steps old.output ask reached less asked,
        subst (λ p. AwaitsBy set stocked program budget point pairs ask new p) (sym still) (record {
          machine = old.cpu;
          reached = subst (λ n. ReachesBy set stocked program budget point pairs old.cpu n new.output) (sym steps) (subst (λ o. ReachesBy set stocked program budget point pairs old.cpu old.steps o) (sym output) reached);
          within = subst (λ n. n < budget) (sym steps) less;
          asked = asked;
          cpu = moved;
        }),
      )

  -- one that is complete
  pub after_step : (stocked : Bool) (program : Program) (budget : ℕ) (point : PointOf I S) (pairs : List Pair) (old new : ThreadOf I S)
      → HasComeFrom set stocked program budget point pairs old → old.steps < budget → old.printing ≡ None → new.printing ≡ None
      → wanted.Done ≡ wanted_of (next_of set program old.cpu) → new.cpu ≡ after_of set program old.cpu
      → new.steps ≡ old.steps + 1 → new.output ≡ old.output
      → HasComeFrom set stocked program budget point pairs new
  after_step stocked program budget point pairs old new come less none still wants moved steps output =
      let done = effect_completes (next_of set program old.cpu) wants in
      come_by stocked program budget point pairs new still
      (reached_at stocked program budget point new.cpu (after_of set program old.cpu) pairs new.steps (old.steps + 1) new.output old.output moved steps output
      (steps_on pairs old.cpu old.steps old.output done.0 (reached_by stocked program budget point pairs old none come) less done.1))

  -- one that stops
  pub after_stop : (stocked : Bool) (program : Program) (budget : ℕ) (point : PointOf I S) (pairs : List Pair) (stop : Stop) (old new : ThreadOf I S)
      → HasComeFrom set stocked program budget point pairs old → old.steps < budget → old.printing ≡ None
      → wanted.Stopped stop ≡ wanted_of (next_of set program old.cpu)
      → new.steps ≡ old.steps → new.output ≡ old.output
      → ComesToFrom set stocked program budget point pairs (turn.Ended stop) new
  after_stop stocked program budget point pairs stop old new come less none wants steps output =
      subst (λ n. EndsFrom set stocked program budget point pairs stop n new.output) (sym steps)
      (subst (λ o. EndsFrom set stocked program budget point pairs stop old.steps o) (sym output)
      (halts pairs old.cpu old.steps old.output stop (reached_by stocked program budget point pairs old none come) less
      (effect_stops (next_of set program old.cpu) stop wants)))

  -- none, since the budget is spent
  pub spent_by : (stocked : Bool) (program : Program) (budget : ℕ) (point : PointOf I S) (pairs : List Pair) (standing : ThreadOf I S)
      → HasComeFrom set stocked program budget point pairs standing → standing.printing ≡ None → standing.steps ≡ budget
      → ComesToEvent set stocked program budget point pairs event.Spent standing
  spent_by stocked program budget point pairs standing come none spent = (reached_by stocked program budget point pairs standing none come, spent)

  pub spent_ends : (stocked : Bool) (program : Program) (budget : ℕ) (point : PointOf I S) (pairs : List Pair) (standing : ThreadOf I S)
      → ComesToEvent set stocked program budget point pairs event.Spent standing → EndsFrom set stocked program budget point pairs stop.Budget standing.steps standing.output
  spent_ends stocked program budget point pairs standing (reached, spent) =
      subst (λ n. EndsFrom set stocked program budget point pairs stop.Budget n standing.output) (sym spent)
      (spends pairs standing.cpu standing.output
      (subst (λ n. ReachesBy set stocked program budget point pairs standing.cpu n standing.output) spent reached))

  pub at_budget : (stocked : Bool) (program : Program) (budget : ℕ) (point : PointOf I S) (pairs : List Pair) (standing : ThreadOf I S)
      → HasComeFrom set stocked program budget point pairs standing → standing.printing ≡ None → standing.steps ≡ budget
      → ComesToFrom set stocked program budget point pairs (turn.Ended stop.Budget) standing
  at_budget stocked program budget point pairs standing come none spent =
      spent_ends stocked program budget point pairs standing (spent_by stocked program budget point pairs standing come none spent)

  -- ---- by a reply

  pub after_reply : (stocked : Bool) (program : Program) (budget : ℕ) (point : PointOf I S) (pairs : List Pair) (ask : Ask) (reply : ℕ) (old new : ThreadOf I S)
      → AwaitsFrom set stocked program budget point pairs ask old → old.printing ≡ None → new.printing ≡ None
      → new.cpu ≡ given old.cpu reply → new.steps ≡ old.steps → new.output ≡ old.output
      → HasComeFrom set stocked program budget point (pairs ++ (ask, reply) ∷ []) new
  after_reply stocked program budget point pairs ask reply old new awaits none still cpu steps output =
      let asking = subst (λ p. AwaitsBy set stocked program budget point pairs ask old p) none awaits in
      come_by stocked program budget point (pairs ++ (ask, reply) ∷ []) new still
      (reached_at stocked program budget point new.cpu (given (after_of set program asking.machine) reply) (pairs ++ (ask, reply) ∷ []) new.steps old.steps new.output old.output
      (cpu ∙ ap (λ m. given m reply) asking.cpu) steps output
      (accesses pairs asking.machine old.steps old.output ask reply asking.reached asking.within asking.asked))
