-- What a thread asks for next lies in memory, and no thread stops by itself for want of a tag.
use Rattle.std.proofs.Common.{◌≡◌, Bool, false, ℕ, ◌+◌, ◌≤◌, ◌%◌, List, length, refl, sym, ap, subst, arith}
use Rattle.std.proofs.lemmas.Bool.{eq-eqb}
use Rattle.llsc_base.specs.Images.{Program}
use Rattle.llsc_base.specs.declared.outside.Ask.{Ask}
use Rattle.llsc_base.specs.declared.outside.Stop.{Stop}
use Rattle.llsc_base.specs.declared.outside.Stop.TheVariants as stop
use Rattle.llsc_base.specs.Effects.{stops}
use Rattle.guest_core.specs.Phase.{PhaseOf, Between, Inside, Awaiting, Calling, Stopped}
use Rattle.guest_core.specs.inner.Sound.{AsksPass, StopsAreOwn}
use Rattle.guest_core.specs.Machine.{MachineOf, wanted_of, after_of, given_in, next_of, AwaitsNothing, IsAwaiting, InstructionSet, IsOwn, GoesOn}
use Rattle.guest_core.specs.declared.phases.Wanted.TheVariants as wanted
use Rattle.guest_core.proofs.Follows.{follows_of}
use Rattle.guest_calls.specs.Run.{Pair, PointOf, first_point, ReachesBy, begins, accesses, steps_on, returns, prints, EndsFrom, halts, leaves, spends, AsksFrom, asks_access, asks_byte, Ends, Asks}
use Rattle.guest_calls.proofs.Written.{written_within}
use Rattle.guest_core.specs.Ports.{IsPlaced}
use Rattle.guest_core.proofs.Placed.{passed_placed}

-- ---- what a thread asks for

-- one that goes on waits for nothing
goes_ready : {I : Type 0} (phase : PhaseOf I) → GoesOn phase → AwaitsNothing phase
goes_ready Between goes = tt
goes_ready (Inside instr) goes = tt
goes_ready (Awaiting instr asked) goes = absurd goes
goes_ready (Calling call) goes = absurd goes
goes_ready (Stopped why) goes = absurd goes

given_goes : {I S : Type 0} (machine : MachineOf I S) (reply : ℕ) (phase : PhaseOf I) → IsAwaiting phase → GoesOn (given_in machine reply phase).phase
given_goes machine reply Between awaits = absurd awaits
given_goes machine reply (Inside instr) awaits = absurd awaits
given_goes machine reply (Awaiting instr asked) awaits = tt
given_goes machine reply (Calling call) awaits = absurd awaits
given_goes machine reply (Stopped why) awaits = absurd awaits

module _ {I S : Type 0} (set : InstructionSet I S)
    (passes : AsksPass set) (own : StopsAreOwn set) where
  module _ (stocked : Bool) (program : Program) (budget : ℕ) (point : PointOf I S) (first : GoesOn point.machine.phase) where
    -- a machine that a run reaches goes on
    pub reached_goes : (pairs : List Pair) (machine : MachineOf I S) (steps : ℕ) (output : List ℕ) → ReachesBy set stocked program budget point pairs machine steps output → GoesOn machine.phase
    reached_goes _ _ _ _ begins = first
    reached_goes _ _ _ _ (accesses pairs machine steps output asked reply reached less is) =
        let ready = goes_ready machine.phase (reached_goes pairs machine steps output reached) in
        let follows = follows_of set program machine (wanted.Access asked) (after_of set program machine) ready (ap wanted_of (sym is)) refl in
        given_goes (after_of set program machine) reply (after_of set program machine).phase follows.0
    reached_goes _ _ _ _ (steps_on pairs machine steps output state reached less is) =
        let ready = goes_ready machine.phase (reached_goes pairs machine steps output reached) in
        let follows = follows_of set program machine wanted.Done (after_of set program machine) ready (ap wanted_of (sym is)) refl in
        subst (λ (m : MachineOf I S). GoesOn m.phase) (sym follows) tt
    reached_goes _ _ _ _ (returns pairs machine steps output call answer reached less is known plain) = tt
    reached_goes _ _ _ _ (prints pairs machine steps output call from bytes reached less is known) = tt

    -- what it asks lies in memory
    pub asks_placed_from : (pairs : List Pair) (asked : Ask) → AsksFrom set stocked program budget point pairs asked → IsPlaced (length program.bytes) asked
    asks_placed_from _ _ (asks_access pairs machine steps output asked reached less is) =
        passed_placed program asked (passes program machine asked (reached_goes pairs machine steps output reached) is)
    asks_placed_from _ _ (asks_byte pairs machine steps output call from count bytes reached less is known short) =
        let inside : from + count ≤ length program.bytes = (written_within (set.call_of call) (length program.bytes) (length output) from count known).0 in
        (eq-eqb ((from + length bytes) % 1) 0 (omega arith), omega (arith, inside, short))

    -- a stop that is no step is an instruction's
    pub halts_by_its_own : (pairs : List Pair) (machine : MachineOf I S) (why : Stop) (steps : ℕ) (output : List ℕ) → ReachesBy set stocked program budget point pairs machine steps output
        → next_of set program machine ≡ stops why → IsOwn why
    halts_by_its_own pairs machine why steps output reached is = own program machine why (reached_goes pairs machine steps output reached) is

    -- a thread doesn't stop by itself for want of a tag
    pub ends_untagged_from : (pairs : List Pair) (why : Stop) (steps : ℕ) (output : List ℕ) (addr : ℕ) → EndsFrom set stocked program budget point pairs why steps output → why ≡ stop.TagLimit addr → ⊥
    ends_untagged_from _ _ _ _ addr (halts pairs machine steps output why reached less is) same = subst IsOwn same (halts_by_its_own pairs machine why steps output reached is)
    ends_untagged_from _ _ _ _ addr (leaves pairs machine steps output call code reached less is known) same = cc
    ends_untagged_from _ _ _ _ addr (spends pairs machine output reached) same = cc

  -- ---- from its start

  module _ (program : Program) (budget : ℕ) (start : MachineOf I S) (first : GoesOn start.phase) where
    pub asks_placed : (pairs : List Pair) (asked : Ask) → Asks set program budget start pairs asked → IsPlaced (length program.bytes) asked
    asks_placed = asks_placed_from false program budget (first_point start) first

    pub ends_untagged : (pairs : List Pair) (why : Stop) (steps : ℕ) (output : List ℕ) (addr : ℕ) → Ends set program budget start pairs why steps output → why ≡ stop.TagLimit addr → ⊥
    ends_untagged = ends_untagged_from false program budget (first_point start) first
