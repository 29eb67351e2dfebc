-- A thread at a store that memory refuses.
use Rattle.std.proofs.Common.{◌≡◌, ℕ, List, subst, Option, None, Some, Bool}
use Rattle.llsc_base.specs.Images.{Program}
use Rattle.llsc_base.specs.declared.access.Place.{Place}
use Rattle.llsc_base.specs.declared.outside.Ask.{Ask}
use Rattle.llsc_base.specs.declared.outside.Ask.TheVariants.{Store}
use Rattle.llsc_base.specs.declared.outside.Stop.TheVariants.{TagLimit}
use Rattle.guest_core.specs.Machine.{InstructionSet}
use Rattle.guest_calls.specs.Run.{Pair, EndsOnFrom, by_limit, PointOf}
use Rattle.guest_thread.specs.ThreadState.{ThreadOf}
use Rattle.guest_thread.specs.Under.{AwaitsFrom, AwaitsBy}
use Rattle.guest_thread.specs.declared.guests.Printing.{Printing}

module _ {I S : Type 0} (set : InstructionSet I S) where
  abbrev is_store : Ask → Type 0
  is_store (Store place value) = Unit {0}
  is_store _ = ⊥

  ended_by : (stocked : Bool) (program : Program) (budget : ℕ) (point : PointOf I S) (pairs : List Pair) (place : Place) (value : ℕ) (standing : ThreadOf I S)
      (printing : Option Printing) → AwaitsBy set stocked program budget point pairs (Store place value) standing printing
      → EndsOnFrom set stocked program budget point pairs (TagLimit place.addr) standing.steps standing.output
  ended_by stocked program budget point pairs place value standing None awaits =
      by_limit pairs awaits.machine standing.steps standing.output place value awaits.reached awaits.within awaits.asked
  ended_by stocked program budget point pairs place value standing (Some printing) awaits = absurd (subst is_store awaits.1 tt)

  -- one that awaits the reply to a store isn't in the middle of a write, and ends there
  pub ended_on : (stocked : Bool) (program : Program) (budget : ℕ) (point : PointOf I S) (pairs : List Pair) (place : Place) (value : ℕ) (ask : Ask) (standing : ThreadOf I S)
      → AwaitsFrom set stocked program budget point pairs ask standing → ask ≡ Store place value
      → EndsOnFrom set stocked program budget point pairs (TagLimit place.addr) standing.steps standing.output
  ended_on stocked program budget point pairs place value ask standing awaits is =
      ended_by stocked program budget point pairs place value standing standing.printing (subst (λ a. AwaitsFrom set stocked program budget point pairs a standing) is awaits)
