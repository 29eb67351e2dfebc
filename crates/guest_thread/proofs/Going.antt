-- A piece of a thread's run, from a point on: how far it comes, within how many steps, and by how many accesses.
use Rattle.std.proofs.Common.{◌≡◌, inl, inr, ℕ, ◌+◌, ◌*◌, ◌<◌, ◌≤◌, Bool, List, ◌++◌, length, refl, sym, ap, subst, ◌∙◌, arith}
use Rattle.llsc_base.specs.Images.{Program}
use Rattle.llsc_base.specs.declared.outside.CallAsk.{CallAsk}
use Rattle.llsc_base.specs.declared.outside.Stop.{Stop}
use Rattle.llsc_base.specs.declared.outside.Stop.TheVariants.{Budget, Exit, TagLimit}
use Rattle.guest_core.specs.Machine.{MachineOf, after_of, between, wanted_of, AwaitsNothing, GoesOn, InstructionSet, IsOwn}
use Rattle.guest_core.specs.inner.Sound.{AsksPass, AsksHaveRoom, StopsAreOwn}
use Rattle.guest_core.specs.Phase.{PhaseOf, Between, Inside, Awaiting, Calling, Stopped}
use Rattle.guest_core.specs.declared.phases.Wanted.TheVariants as wanted
use Rattle.guest_core.proofs.Follows.{follows_of}
use Rattle.guest_calls.specs.Bound.{most_accesses_in}
use Rattle.guest_calls.specs.Calls.{most_output}
use Rattle.guest_calls.specs.Run.{Pair, begins, accesses, steps_on, returns, prints, halts, leaves, spends, by_itself, by_limit, EndsOnFrom, PointOf, EndsFrom, ReachesBy}
use Rattle.guest_calls.proofs.FewAccesses.{few_pairs}
use Rattle.guest_calls.proofs.Pieces.{ends_on_later, reaches_on, reaches_plain}
use Rattle.guest_thread.specs.Pieces.{ByAnswer, HasMadeFew, StandsAt}
use Rattle.guest_thread.specs.Ports.{EndsByFrom}
use Rattle.guest_thread.specs.inner.ThreadState.{StopsWithin}
use Rattle.guest_thread.specs.Under.{CallsToStart}
use Rattle.guest_thread.specs.declared.pieces.Paused.{Paused}
use Rattle.guest_thread.specs.declared.pieces.Paused.TheVariants.{Ended, Start, Pause}
use Rattle.history.specs.declared.entry.Entry.{Entry}
use Rattle.shared_memory.specs.Origin.{Origin}
use Rattle.guest_thread.proofs.Placed.{ends_untagged_from, halts_by_its_own, reached_goes}

module _ {I S : Type 0} (set : InstructionSet I S) where
  ready_at : (phase : PhaseOf I) → GoesOn phase → AwaitsNothing phase
  ready_at Between goes = tt
  ready_at (Inside instr) goes = tt
  ready_at (Awaiting instr asked) goes = absurd goes
  ready_at (Calling call) goes = absurd goes
  ready_at (Stopped why) goes = absurd goes

  same_limit : (addr other : ℕ) → TagLimit addr ≡ TagLimit other → addr ≡ other
  same_limit addr other same = cc

  -- ---- within fewer steps, and within more

  module _ (stocked : Bool) (program : Program) (upto budget : ℕ) (point : PointOf I S) (least : upto ≤ budget) where
    pub reaches_within : (pairs : List Pair) (machine : MachineOf I S) (steps : ℕ) (output : List ℕ) → ReachesBy set stocked program upto point pairs machine steps output
        → ReachesBy set stocked program budget point pairs machine steps output
    reaches_within _ _ _ _ begins = begins
    reaches_within _ _ _ _ (accesses pairs machine steps output ask reply reached less is) =
        accesses pairs machine steps output ask reply (reaches_within pairs machine steps output reached) (omega (arith, less, least)) is
    reaches_within _ _ _ _ (steps_on pairs machine steps output state reached less is) =
        steps_on pairs machine steps output state (reaches_within pairs machine steps output reached) (omega (arith, less, least)) is
    reaches_within _ _ _ _ (returns pairs machine steps output call answer reached less is known plain) =
        returns pairs machine steps output call answer (reaches_within pairs machine steps output reached) (omega (arith, less, least)) is known plain
    reaches_within _ _ _ _ (prints pairs machine steps output call addr bytes reached less is known) =
        prints pairs machine steps output call addr bytes (reaches_within pairs machine steps output reached) (omega (arith, less, least)) is known

    pub calls_within : (pairs : List Pair) (call : CallAsk) (cpu : MachineOf I S) (steps : ℕ) (output : List ℕ) → CallsToStart set stocked program upto point pairs call cpu steps output
        → CallsToStart set stocked program budget point pairs call cpu steps output
    calls_within pairs call cpu steps output calls = record {
      machine = calls.machine;
      reached = reaches_within pairs calls.machine steps output calls.reached;
      within = let less = calls.within in omega (arith, less, least);
      called = calls.called;
      starts = calls.starts;
      cpu_is = calls.cpu_is;
    }

    -- the end of so many steps is none where the thread has stopped before
    unspent : StopsWithin upto Budget upto → ⊥
    unspent (inl less) = omega (arith, less)
    unspent (inr exit) = let is = exit.1 in cc

    ends_within : (pairs : List Pair) (stop : Stop) (steps : ℕ) (output : List ℕ) → StopsWithin upto stop steps
        → EndsFrom set stocked program upto point pairs stop steps output → EndsFrom set stocked program budget point pairs stop steps output
    ends_within _ _ _ _ early (halts pairs machine steps output stop reached less is) =
        halts pairs machine steps output stop (reaches_within pairs machine steps output reached) (omega (arith, less, least)) is
    ends_within _ _ _ _ early (leaves pairs machine steps output call code reached less is known) =
        leaves pairs machine steps output call code (reaches_within pairs machine steps output reached) (omega (arith, less, least)) is known
    ends_within _ _ _ _ early (spends pairs machine output reached) = absurd (unspent early)

    ends_on_within : (pairs : List Pair) (stop : Stop) (steps : ℕ) (output : List ℕ) → StopsWithin upto stop steps
        → EndsOnFrom set stocked program upto point pairs stop steps output → EndsOnFrom set stocked program budget point pairs stop steps output
    ends_on_within _ _ _ _ early (by_itself pairs stop steps output ends) = by_itself pairs stop steps output (ends_within pairs stop steps output early ends)
    ends_on_within _ _ _ _ early (by_limit pairs machine steps output place value reached less is) =
        by_limit pairs machine steps output place value (reaches_within pairs machine steps output reached) (omega (arith, less, least)) is

    pub ends_by_within : (refuses : ℕ → Type 0) (pairs : List Pair) (stop : Stop) (steps : ℕ) (output : List ℕ) → StopsWithin upto stop steps
        → EndsByFrom set stocked refuses program upto point pairs stop steps output → EndsOnFrom set stocked program budget point pairs stop steps output
    ends_by_within refuses pairs stop steps output early (inl ends) = by_itself pairs stop steps output (ends_within pairs stop steps output early ends)
    ends_by_within refuses pairs stop steps output early (inr refused) = ends_on_within pairs stop steps output early refused.1.2

  -- ---- from the point on

  module _ (stocked : Bool) (program : Program) (budget : ℕ) (point : PointOf I S) where
    -- no fewer steps
    pub steps_since : (pairs : List Pair) (machine : MachineOf I S) (steps : ℕ) (output : List ℕ) → ReachesBy set stocked program budget point pairs machine steps output
        → point.steps ≤ steps
    steps_since _ _ _ _ begins = omega arith
    steps_since _ _ _ _ (accesses pairs machine steps output ask reply reached less is) = steps_since pairs machine steps output reached
    steps_since _ _ _ _ (steps_on pairs machine steps output state reached less is) =
        let before = steps_since pairs machine steps output reached in omega (arith, before)
    steps_since _ _ _ _ (returns pairs machine steps output call answer reached less is known plain) =
        let before = steps_since pairs machine steps output reached in omega (arith, before)
    steps_since _ _ _ _ (prints pairs machine steps output call addr bytes reached less is known) =
        let before = steps_since pairs machine steps output reached in omega (arith, before)

    ended_since : (pairs : List Pair) (stop : Stop) (steps : ℕ) (output : List ℕ) → EndsFrom set stocked program budget point pairs stop steps output
        → point.steps ≤ steps
    ended_since _ _ _ _ (halts pairs machine steps output stop reached less is) = steps_since pairs machine steps output reached
    ended_since _ _ _ _ (leaves pairs machine steps output call code reached less is known) =
        let before = steps_since pairs machine steps output reached in omega (arith, before)
    ended_since _ _ _ _ (spends pairs machine output reached) = steps_since pairs machine budget output reached

    pub ended_on_since : (pairs : List Pair) (stop : Stop) (steps : ℕ) (output : List ℕ) → EndsOnFrom set stocked program budget point pairs stop steps output
        → point.steps ≤ steps
    ended_on_since _ _ _ _ (by_itself pairs stop steps output ends) = ended_since pairs stop steps output ends
    ended_on_since _ _ _ _ (by_limit pairs machine steps output place value reached less is) = steps_since pairs machine steps output reached

    -- and no more than the budget
    ended_within : (pairs : List Pair) (stop : Stop) (steps : ℕ) (output : List ℕ) → EndsFrom set stocked program budget point pairs stop steps output
        → steps ≤ budget
    ended_within _ _ _ _ (halts pairs machine steps output stop reached less is) = omega (arith, less)
    ended_within _ _ _ _ (leaves pairs machine steps output call code reached less is known) = omega (arith, less)
    ended_within _ _ _ _ (spends pairs machine output reached) = omega arith

    ended_on_within : (pairs : List Pair) (stop : Stop) (steps : ℕ) (output : List ℕ) → EndsOnFrom set stocked program budget point pairs stop steps output
        → steps ≤ budget
    ended_on_within _ _ _ _ (by_itself pairs stop steps output ends) = ended_within pairs stop steps output ends
    ended_on_within _ _ _ _ (by_limit pairs machine steps output place value reached less is) = omega (arith, less)

    pub ended_by_within : (refuses : ℕ → Type 0) (pairs : List Pair) (stop : Stop) (steps : ℕ) (output : List ℕ)
        → EndsByFrom set stocked refuses program budget point pairs stop steps output → steps ≤ budget
    ended_by_within refuses pairs stop steps output (inl ends) = ended_within pairs stop steps output ends
    ended_by_within refuses pairs stop steps output (inr refused) = ended_on_within pairs stop steps output refused.1.2

  module _ (passes : AsksPass set) (own : StopsAreOwn set)
      (stocked : Bool) (program : Program) (budget : ℕ) (point : PointOf I S) (rests : point.machine ≡ between point.machine.state) where
    goes_on : GoesOn point.machine.phase
    goes_on = subst (λ (m : MachineOf I S). GoesOn m.phase) (sym rests) tt

    -- with all steps made it stands between two instructions: within one, there are fewer
    pub spent_between : (pairs : List Pair) (machine : MachineOf I S) (steps : ℕ) (output : List ℕ) → ReachesBy set stocked program budget point pairs machine steps output
        → steps ≡ budget → machine ≡ between machine.state
    spent_between _ _ _ _ begins spent = rests
    spent_between _ _ _ _ (accesses pairs machine steps output ask reply reached less is) spent = absurd (omega (arith, less, spent))
    spent_between _ _ _ _ (steps_on pairs machine steps output state reached less is) spent =
        let ready = ready_at machine.phase (reached_goes set passes own stocked program budget point goes_on pairs machine steps output reached) in
        follows_of set program machine wanted.Done (after_of set program machine) ready (ap wanted_of (sym is)) refl
    spent_between _ _ _ _ (returns pairs machine steps output call answer reached less is known plain) spent = refl
    spent_between _ _ _ _ (prints pairs machine steps output call addr bytes reached less is known) spent = refl

    -- a thread stops for want of a write only where memory refuses a store
    pub refused_at : (refuses : ℕ → Type 0) (pairs : List Pair) (stop : Stop) (steps : ℕ) (output : List ℕ) (addr : ℕ)
        → EndsByFrom set stocked refuses program budget point pairs stop steps output → stop ≡ TagLimit addr → refuses addr
    refused_at refuses pairs stop steps output addr (inl ends) is = absurd (ends_untagged_from set passes own stocked program budget point goes_on pairs stop steps output addr ends is)
    refused_at refuses pairs stop steps output addr (inr refused) is = subst refuses (same_limit refused.0 addr (sym refused.1.1 ∙ is)) refused.1.0

    -- the exit call is a step
    pub left_since : (pairs : List Pair) (stop : Stop) (steps : ℕ) (output : List ℕ) (code : ℕ) → EndsOnFrom set stocked program budget point pairs stop steps output
        → stop ≡ Exit code → point.steps < steps
    left_since _ _ _ _ code (by_itself _ _ _ _ (halts pairs machine steps output stop reached less found)) is =
        absurd (subst IsOwn is (halts_by_its_own set passes own stocked program budget point goes_on pairs machine stop steps output reached found))
    left_since _ _ _ _ code (by_itself _ _ _ _ (leaves pairs machine steps output call left reached less found known)) is =
        let since = steps_since stocked program budget point pairs machine steps output reached in omega (arith, since)
    left_since _ _ _ _ code (by_itself _ _ _ _ (spends pairs machine output reached)) is = absurd (let f : ⊥ = cc in f)
    left_since _ _ _ _ code (by_limit pairs machine steps output place value reached less found) is = absurd (let f : ⊥ = cc in f)

    -- steps are used up where they are the budget
    pub used_up : (pairs : List Pair) (stop : Stop) (steps : ℕ) (output : List ℕ) → EndsOnFrom set stocked program budget point pairs stop steps output
        → stop ≡ Budget → steps ≡ budget
    used_up _ _ _ _ (by_itself _ _ _ _ (halts pairs machine steps output stop reached less found)) is =
        absurd (subst IsOwn is (halts_by_its_own set passes own stocked program budget point goes_on pairs machine stop steps output reached found))
    used_up _ _ _ _ (by_itself _ _ _ _ (leaves pairs machine steps output call code reached less found known)) is = absurd (let f : ⊥ = cc in f)
    used_up _ _ _ _ (by_itself _ _ _ _ (spends pairs machine output reached)) is = refl
    used_up _ _ _ _ (by_limit pairs machine steps output place value reached less found) is = absurd (let f : ⊥ = cc in f)

  -- ---- how many accesses

  module _ {C : Type 0} (of_core : C → MachineOf I S) (room : AsksHaveRoom set)
      (stocked : Bool) (program : Program) (budget : ℕ) (point : PointOf I S) (rests : point.machine ≡ between point.machine.state)
      (short : length point.output ≤ most_output) (before : ℕ) (few : before ≤ 16 * point.steps + length point.output) where
    record HasReplies (pairs : List Pair) (machine : MachineOf I S) (steps : ℕ) (output : List ℕ) : Type 0 where
      made : before + length pairs ≤ 16 * steps + length machine.replies + length output
      replies : length machine.replies ≤ 16
      written : length output ≤ most_output

    more_pairs : (pairs : List Pair) (machine : MachineOf I S) (steps : ℕ) (output : List ℕ) → ReachesBy set stocked program budget point pairs machine steps output
        → HasReplies pairs machine steps output
    more_pairs pairs machine steps output reached =
        let all = few_pairs set room program budget point pairs machine steps output rests short (reaches_plain set stocked program budget point pairs machine steps output reached) in
        let made = all.0 in
        record { made = omega (arith, few, made); replies = all.1; written = all.2 }

    few_ended : (pairs : List Pair) (stop : Stop) (steps : ℕ) (output : List ℕ) → EndsFrom set stocked program budget point pairs stop steps output
        → before + length pairs ≤ most_accesses_in steps
    few_ended _ _ _ _ (halts pairs machine steps output stop reached less is) =
        let all = more_pairs pairs machine steps output reached in let made = all.made in let replies = all.replies in let written = all.written in
        omega (arith, made, replies, written)
    few_ended _ _ _ _ (leaves pairs machine steps output call code reached less is known) =
        let all = more_pairs pairs machine steps output reached in let made = all.made in let replies = all.replies in let written = all.written in
        omega (arith, made, replies, written)
    few_ended _ _ _ _ (spends pairs machine output reached) =
        let all = more_pairs pairs machine budget output reached in let made = all.made in let replies = all.replies in let written = all.written in
        omega (arith, made, replies, written)

    few_ended_on : (pairs : List Pair) (stop : Stop) (steps : ℕ) (output : List ℕ) → EndsOnFrom set stocked program budget point pairs stop steps output
        → before + length pairs ≤ most_accesses_in steps
    few_ended_on _ _ _ _ (by_itself pairs stop steps output ends) = few_ended pairs stop steps output ends
    few_ended_on _ _ _ _ (by_limit pairs machine steps output place value reached less is) =
        let all = more_pairs pairs machine steps output reached in let made = all.made in let replies = all.replies in let written = all.written in
        omega (arith, made, replies, written)

    pub few_by_answer : {P : Type 0} (origin : Origin) (history : List Entry) (upto t : ℕ) (pairs : List Pair) (answer : Paused P C)
        → ByAnswer set of_core stocked program budget point pairs answer → StandsAt set of_core origin history stocked upto budget t point.steps answer → HasMadeFew (before + length pairs) answer
    few_by_answer origin history upto t pairs (Ended done) comes stands = few_ended_on pairs done.end.stop done.end.steps done.end.out comes
    few_by_answer origin history upto t pairs (Start part entry arg) comes stands =
        let calls = comes.1 in
        let all = more_pairs pairs calls.machine part.steps part.out calls.reached in let made = all.made in let replies = all.replies in
        omega (arith, made, replies)
    few_by_answer origin history upto t pairs (Pause part) comes stands =
        let all = more_pairs pairs (of_core part.cpu) part.steps part.out comes in let made = all.made in
        let none : length (of_core part.cpu).replies ≡ 0 = ap (λ (m : MachineOf I S). length m.replies) stands.between in
        omega (arith, made, none)

  -- ---- behind another piece

  pub answer_later : {P C : Type 0} (of_core : C → MachineOf I S) (stocked : Bool) (program : Program) (budget : ℕ) (from : PointOf I S) (before : List Pair) (point : PointOf I S) (pairs : List Pair) (answer : Paused P C)
      → ReachesBy set stocked program budget from before point.machine point.steps point.output → ByAnswer set of_core stocked program budget point pairs answer
      → ByAnswer set of_core stocked program budget from (before ++ pairs) answer
  answer_later of_core stocked program budget from before point pairs (Ended done) way comes =
      ends_on_later set stocked program budget from point before way pairs done.end.stop done.end.steps done.end.out comes
  answer_later of_core stocked program budget from before point pairs (Start part entry arg) way comes =
      let calls = comes.1 in (
        comes.0,
        record {
          machine = calls.machine;
          reached = reaches_on set stocked program budget from point before way pairs calls.machine part.steps part.out calls.reached;
          within = calls.within;
          called = calls.called;
          starts = calls.starts;
          cpu_is = calls.cpu_is;
        },
        comes.2,
        comes.3,
      )
  answer_later of_core stocked program budget from before point pairs (Pause part) way comes =
      reaches_on set stocked program budget from point before way pairs (of_core part.cpu) part.steps part.out comes
