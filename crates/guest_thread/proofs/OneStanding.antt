-- A thread that awaits the reply to an access stands in one way, by the accesses and replies behind it.
use Rattle.std.proofs.Common.{◌≡◌, ℕ, ◌<◌, Option, Some, None, false, List, refl, sym, ap, subst, ◌∙◌}
use Rattle.llsc_base.specs.Images.{Program}
use Rattle.llsc_base.specs.declared.outside.Ask.{Ask}
use Rattle.guest_core.specs.Machine.{MachineOf, InstructionSet, after_of}
use Rattle.guest_calls.specs.Run.{Pair, first_point}
use Rattle.guest_calls.proofs.Asked.{RestsAt, one_rest_of, rests_at_access, rests_at_byte}
use Rattle.guest_calls.proofs.Decided.{Spot, spot_at}
use Rattle.guest_thread.specs.ThreadState.{ThreadOf}
use Rattle.guest_thread.specs.Under.{Awaits, AwaitsBy}
use Rattle.guest_thread.specs.declared.guests.Printing.{Printing}

module _ {I S : Type 0} (set : InstructionSet I S) (program : Program) (budget : ℕ) (start : MachineOf I S) (pairs : List Pair) where
  -- its run rests at a spot from whose machine it has gone on, after as many steps
  record RestsSo (standing : ThreadOf I S) : Type 0 where
    spot : Spot I S
    rests : RestsAt set program budget start pairs spot
    cpu : standing.cpu ≡ after_of set program spot.machine
    steps : standing.steps ≡ spot.steps

  rests_so : (ask : Ask) (standing : ThreadOf I S) (printing : Option Printing)
      → AwaitsBy set false program budget (first_point start) pairs ask standing printing → RestsSo standing
  rests_so ask standing None awaits = record {
    spot = spot_at set pairs awaits.machine standing.steps standing.output;
    rests = rests_at_access set program budget start pairs awaits.machine standing.steps standing.output ask awaits.reached awaits.within awaits.asked;
    cpu = awaits.cpu;
    steps = refl;
  }
  rests_so ask standing (Some printing) awaits =
      let writing = awaits.0 in
      let here : Spot I S = spot_at set writing.before writing.machine standing.steps writing.output in
      record {
        spot = here;
        rests =
            subst (λ behind. RestsAt set program budget start behind here) (sym writing.pairs_are)
            (rests_at_byte set program budget start writing.before writing.machine standing.steps writing.output writing.call printing.from printing.len writing.bytes
            writing.reached writing.within writing.called writing.writes (subst (λ n. n < printing.len) (sym writing.loaded) writing.left));
        cpu = writing.cpu;
        steps = refl;
      }

  -- the core and the steps of a thread that awaits a reply are one, whatever it awaits
  pub one_standing : (ask other : Ask) (one two : ThreadOf I S)
      → Awaits set program budget start pairs ask one → Awaits set program budget start pairs other two
      → (one.cpu ≡ two.cpu) × (one.steps ≡ two.steps)
  one_standing ask other one two awaits awaits_too =
      let first = rests_so ask one one.printing awaits in
      let second = rests_so other two two.printing awaits_too in
      let same : first.spot ≡ second.spot = one_rest_of set program budget start pairs first.spot second.spot first.rests second.rests in (
        first.cpu ∙ ap (λ (spot : Spot I S). after_of set program spot.machine) same ∙ sym second.cpu,
        first.steps ∙ ap (λ (spot : Spot I S). spot.steps) same ∙ sym second.steps,
      )
