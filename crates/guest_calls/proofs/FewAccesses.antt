-- How many accesses a run makes: 16 for each step at most, one for each byte that is written, and one for each reply of an
-- instruction that isn't complete.
use Rattle.std.proofs.Common.{◌≡◌, ℕ, ◌+◌, ◌*◌, ◌<◌, ◌≤◌, List, [], ◌∷◌, ◌++◌, length, refl, sym, ap, subst, ◌∙◌, length-append, arith}
use Rattle.llsc_base.specs.Images.{Program}
use Rattle.llsc_base.specs.declared.outside.Ask.{Ask}
use Rattle.llsc_base.specs.Effects.{asks}
use Rattle.llsc_base.specs.declared.outside.Stop.{Stop}
use Rattle.guest_core.specs.Phase.{PhaseOf, Between, Inside, Awaiting, Calling, Stopped}
use Rattle.guest_core.specs.Machine.{MachineOf, wanted_of, between, after_of, given, given_in, AwaitsNothing, IsAwaiting, InstructionSet, next_of, GoesOnWith}
use Rattle.guest_core.specs.declared.phases.Wanted.TheVariants as wanted
use Rattle.guest_core.proofs.Follows.{follows_of}
use Rattle.guest_calls.specs.Bound.{most_accesses_in}
use Rattle.guest_calls.specs.Calls.{most_output}
use Rattle.guest_calls.specs.Run.{Pair, PointOf, first_point, byte_loads, Reaches, ReachesFrom, begins, accesses, steps_on, returns, prints, Ends, halts, leaves, spends, EndsOn, by_itself, by_limit}
use Rattle.guest_calls.proofs.Asked.{loads_count}
use Rattle.guest_calls.proofs.Written.{written_within}

-- ---- a reply

goes_ready : {I : Type 0} (phase : PhaseOf I) (replies : List ℕ) → GoesOnWith phase replies → AwaitsNothing phase
goes_ready Between replies goes = tt
goes_ready (Inside instr) replies goes = tt
goes_ready (Awaiting instr asked) replies goes = absurd goes
goes_ready (Calling call) replies goes = absurd goes
goes_ready (Stopped why) replies goes = absurd goes

given_goes : {I S : Type 0} (machine : MachineOf I S) (reply : ℕ) (replies : List ℕ) (phase : PhaseOf I) → IsAwaiting phase → GoesOnWith (given_in machine reply phase).phase replies
given_goes machine reply replies Between awaits = absurd awaits
given_goes machine reply replies (Inside instr) awaits = absurd awaits
given_goes machine reply replies (Awaiting instr asked) awaits = tt
given_goes machine reply replies (Calling call) awaits = absurd awaits
given_goes machine reply replies (Stopped why) awaits = absurd awaits

pub given_one : {I S : Type 0} (machine : MachineOf I S) (reply : ℕ) (phase : PhaseOf I) → IsAwaiting phase → (given_in machine reply phase).replies ≡ machine.replies ++ reply ∷ []
given_one machine reply Between awaits = absurd awaits
given_one machine reply (Inside instr) awaits = absurd awaits
given_one machine reply (Awaiting instr asked) awaits = refl
given_one machine reply (Calling call) awaits = absurd awaits
given_one machine reply (Stopped why) awaits = absurd awaits

-- ---- so far

-- so many accesses were made from a point on
record HasMade {I S : Type 0} (from : PointOf I S) (pairs : List Pair) (machine : MachineOf I S) (steps : ℕ) (output : List ℕ) : Type 0 where
  goes : GoesOnWith machine.phase machine.replies
  replies : length machine.replies ≤ 16
  accesses : length pairs + 16 * from.steps + length from.output ≤ 16 * steps + length machine.replies + length output
  written : length output ≤ most_output

-- of an instruction set each of whose instructions asks for an access only with fewer than 16 replies behind it
module _ {I S : Type 0} (set : InstructionSet I S)
    (room : (program : Program) (machine : MachineOf I S) (asked : Ask) → GoesOnWith machine.phase machine.replies → next_of set program machine ≡ asks asked → length machine.replies < 16) where
  module _ (program : Program) (budget : ℕ) (from : PointOf I S) (between_two : from.machine ≡ between from.machine.state) (short : length from.output ≤ most_output) where
    at_first : HasMade from [] from.machine from.steps from.output
    at_first =
        let none : from.machine.replies ≡ [] = ap (λ (m : MachineOf I S). m.replies) between_two in
        record {
          goes = subst (λ p. GoesOnWith p from.machine.replies) (sym (ap (λ (m : MachineOf I S). m.phase) between_two)) none;
          replies = subst (λ (l : List ℕ). length l ≤ 16) (sym none) (omega arith);
          accesses = omega arith;
          written = short;
        }

    -- between two instructions, after a step
    a_step_on : (pairs : List Pair) (machine new : MachineOf I S) (steps : ℕ) (output : List ℕ) → HasMade from pairs machine steps output → new ≡ between new.state
        → HasMade from pairs new (steps + 1) output
    a_step_on pairs machine new steps output before is =
        let none : new.replies ≡ [] = ap (λ (m : MachineOf I S). m.replies) is in
        let few = before.replies in
        let made = before.accesses in
        record {
          goes = subst (λ p. GoesOnWith p new.replies) (sym (ap (λ (m : MachineOf I S). m.phase) is)) none;
          replies = subst (λ (l : List ℕ). length l ≤ 16) (sym none) (omega arith);
          accesses = omega (arith, few, made);
          written = before.written;
        }

    made : (pairs : List Pair) (machine : MachineOf I S) (steps : ℕ) (output : List ℕ) → ReachesFrom set program budget from pairs machine steps output → HasMade from pairs machine steps output
    made _ _ _ _ begins = at_first
    made _ _ _ _ (accesses pairs machine steps output ask reply reached less asked) =
        let before = made pairs machine steps output reached in
        let room_left : length machine.replies < 16 = room program machine ask before.goes asked in
        let follows = follows_of set program machine (wanted.Access ask) (after_of set program machine) (goes_ready machine.phase machine.replies before.goes) (ap wanted_of (sym asked)) refl in
        let one : length (given (after_of set program machine) reply).replies ≡ length machine.replies + 1 =
        ap (λ rs. length rs) (given_one (after_of set program machine) reply (after_of set program machine).phase follows.0 ∙ ap (λ rs. rs ++ reply ∷ []) follows.1)
        ∙ length-append machine.replies (reply ∷ []) in
        let longer : length (pairs ++ (ask, reply) ∷ []) ≡ length pairs + 1 = length-append pairs ((ask, reply) ∷ []) in
        let all = before.accesses in
        record {
          goes = given_goes (after_of set program machine) reply (given (after_of set program machine) reply).replies (after_of set program machine).phase follows.0;
          replies = omega (arith, room_left, one);
          accesses = omega (arith, one, longer, all);
          written = before.written;
        }
    made _ _ _ _ (steps_on pairs machine steps output state reached less done) =
        let before = made pairs machine steps output reached in
        a_step_on pairs machine (after_of set program machine) steps output before
        (follows_of set program machine wanted.Done (after_of set program machine) (goes_ready machine.phase machine.replies before.goes) (ap wanted_of (sym done)) refl)
    made _ _ _ _ (returns pairs machine steps output call answer reached less called known plain) =
        a_step_on pairs machine _ steps output (made pairs machine steps output reached) refl
    made _ _ _ _ (prints pairs machine steps output call addr bytes reached less called known) =
        let before = made pairs machine steps output reached in
        let few = before.replies in
        let all = before.accesses in
        let longer : length (pairs ++ byte_loads addr bytes) ≡ length pairs + length bytes =
        length-append pairs (byte_loads addr bytes) ∙ ap (λ n. length pairs + n) (loads_count addr bytes) in
        let more : length (output ++ bytes) ≡ length output + length bytes = length-append output bytes in
        let left = (written_within (set.call_of call) (length program.bytes) (length output) addr (length bytes) known).1 in
        record {
          goes = refl;
          replies = omega arith;
          accesses = omega (arith, few, all, longer, more);
          written = omega (arith, more, left);
        }

  -- from a point between two instructions
  pub few_pairs : (program : Program) (budget : ℕ) (from : PointOf I S) (pairs : List Pair) (machine : MachineOf I S) (steps : ℕ) (output : List ℕ)
      → from.machine ≡ between from.machine.state → length from.output ≤ most_output → ReachesFrom set program budget from pairs machine steps output
      → (length pairs + 16 * from.steps + length from.output ≤ 16 * steps + length machine.replies + length output)
      × (length machine.replies ≤ 16) × (length output ≤ most_output)
  few_pairs program budget from pairs machine steps output between_two short reached =
      let all = made program budget from between_two short pairs machine steps output reached in
      (all.accesses, all.replies, all.written)

  -- ---- up to the end

  module _ (program : Program) (budget : ℕ) (start : MachineOf I S) (between_two : start ≡ between start.state) where
    few_reached : (pairs : List Pair) (machine : MachineOf I S) (steps : ℕ) (output : List ℕ) → Reaches set program budget start pairs machine steps output
        → length pairs ≤ most_accesses_in steps
    few_reached pairs machine steps output reached =
        let few = few_pairs program budget (first_point start) pairs machine steps output between_two (omega arith) reached in
        let all = few.0 in
        let replies = few.1 in
        let written = few.2 in
        omega (arith, all, replies, written)

    few_ended : (pairs : List Pair) (stop : Stop) (steps : ℕ) (output : List ℕ) → Ends set program budget start pairs stop steps output → length pairs ≤ most_accesses_in steps
    few_ended _ _ _ _ (halts pairs machine steps output stop reached less stops) = few_reached pairs machine steps output reached
    few_ended _ _ _ _ (leaves pairs machine steps output call code reached less called known) =
        let few = few_reached pairs machine steps output reached in omega (arith, few)
    few_ended _ _ _ _ (spends pairs machine output reached) = few_reached pairs machine budget output reached

    pub few_accesses : (pairs : List Pair) (stop : Stop) (steps : ℕ) (output : List ℕ) → EndsOn set program budget start pairs stop steps output → length pairs ≤ most_accesses_in steps
    few_accesses _ _ _ _ (by_itself pairs stop steps output ends) = few_ended pairs stop steps output ends
    few_accesses _ _ _ _ (by_limit pairs machine steps output place value reached less stored) = few_reached pairs machine steps output reached

module _ {I S : Type 0} (set : InstructionSet I S) where
  -- ---- the steps of a run that has ended are no more than its budget

  ended_within : (program : Program) (budget : ℕ) (start : MachineOf I S) (pairs : List Pair) (stop : Stop) (steps : ℕ) (output : List ℕ) → Ends set program budget start pairs stop steps output → steps ≤ budget
  ended_within program budget start _ _ _ _ (halts pairs machine steps output stop reached less stops) = omega (arith, less)
  ended_within program budget start _ _ _ _ (leaves pairs machine steps output call code reached less called known) = omega (arith, less)
  ended_within program budget start _ _ _ _ (spends pairs machine output reached) = omega arith

  pub steps_within : (program : Program) (budget : ℕ) (start : MachineOf I S) (pairs : List Pair) (stop : Stop) (steps : ℕ) (output : List ℕ) → EndsOn set program budget start pairs stop steps output → steps ≤ budget
  steps_within program budget start _ _ _ _ (by_itself pairs stop steps output ends) = ended_within program budget start pairs stop steps output ends
  steps_within program budget start _ _ _ _ (by_limit pairs machine steps output place value reached less stored) = omega (arith, less)
