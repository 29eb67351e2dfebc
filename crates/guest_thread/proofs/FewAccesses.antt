-- How many accesses a thread has in a history in which it has ended, and how many of them are counted.
use Rattle.std.proofs.Common.{◌≡◌, ℕ, ◌+◌, ◌^◌, ◌<◌, ◌≤◌, List, [], ◌∷◌, length, subst, arith}
use Rattle.std.proofs.lemmas.List.{length-map}
use Rattle.std.proofs.lemmas.List.Sums.{sum_by-cons}
use Rattle.llsc_base.specs.Images.{Program}
use Rattle.llsc_base.specs.Limits.{most_budget}
use Rattle.llsc_base.specs.Sizes.{Numbers}
use Rattle.history.specs.Parts.{accesses_of, entries_of}
use Rattle.history.specs.declared.entry.Entry.{Entry}
use Rattle.history.specs.declared.entry.Entry.TheVariants.{Read, Write, Fail, Clear, Watch, Miss, Begin, End, Start}
use Rattle.llsc_base.specs.declared.outside.Ask.{Ask}
use Rattle.llsc_base.specs.Effects.{asks}
use Rattle.guest_core.specs.Machine.{MachineOf, InstructionSet, GoesOnWith, between, next_of}
use Rattle.guest_calls.specs.Bound.{most_accesses_in}
use Rattle.guest_calls.specs.Pairs.{pair_of}
use Rattle.guest_calls.proofs.FewAccesses.{few_accesses, steps_within}
use Rattle.guest_thread.specs.Counting.{AreCounts, accesses_counted, counts_in}
use Rattle.guest_thread.specs.Counts.{reads_in, writes_in, fails_in, reads_of, writes_of, fails_of}
use Rattle.guest_thread.specs.Outcome.{IsEndOn}
use Rattle.guest_thread.specs.declared.ends.GuestEnd.{GuestEnd}

-- its accesses are those of its run
pub few_in_history : {I S : Type 0} (set : InstructionSet I S)
    → ((program : Program) (machine : MachineOf I S) (asked : Ask) → GoesOnWith machine.phase machine.replies → next_of set program machine ≡ asks asked → length machine.replies < 16)
    → (program : Program) (size : Numbers) (budget : ℕ) (start : MachineOf I S) (history : List Entry) (end : GuestEnd) → start ≡ between start.state
    → IsEndOn set program size budget start history end → length (accesses_of (entries_of end.thread history)) ≤ most_accesses_in end.steps
few_in_history set room program size budget start history end between_two is =
    subst (λ n. n ≤ most_accesses_in end.steps) (length-map (accesses_of (entries_of end.thread history)) pair_of)
    (few_accesses set room program budget start between_two _ end.stop end.steps end.out is.ends)

-- ---- what is counted of a history

-- an entry that is an access is counted once at most, and any other isn't
one_counted : (entry : Entry) (history : List Entry) → reads_of history + writes_of history + fails_of history ≤ length (accesses_of history)
    → reads_in entry + reads_of history + (writes_in entry + writes_of history) + (fails_in entry + fails_of history) ≤ length (accesses_of (entry ∷ history))
one_counted (Read thread place value ex) history rest = omega (arith, rest)
one_counted (Write thread place value ex) history rest = omega (arith, rest)
one_counted (Fail thread place value cause) history rest = omega (arith, rest)
one_counted (Clear thread) history rest = omega (arith, rest)
one_counted (Watch thread place) history rest = omega (arith, rest)
one_counted (Miss thread place) history rest = omega (arith, rest)
one_counted (Begin thread place) history rest = omega (arith, rest)
one_counted (End thread place) history rest = omega (arith, rest)
one_counted (Start thread child entry arg) history rest = omega (arith, rest)

all_counted : (history : List Entry) → reads_of history + writes_of history + fails_of history ≤ length (accesses_of history)
all_counted [] = omega arith
all_counted (entry ∷ history) =
    let here = one_counted entry history (all_counted history) in
    let reads : reads_of (entry ∷ history) ≡ reads_in entry + reads_of history = sum_by-cons reads_in entry history in
    let writes : writes_of (entry ∷ history) ≡ writes_in entry + writes_of history = sum_by-cons writes_in entry history in
    let fails : fails_of (entry ∷ history) ≡ fails_in entry + fails_of history = sum_by-cons fails_in entry history in
    omega (arith, here, reads, writes, fails)

-- a thread's counts are no more than its accesses
pub counted_within : (thread : ℕ) (history : List Entry) (end : GuestEnd) → AreCounts thread history (counts_in end)
    → accesses_counted (counts_in end) ≤ length (accesses_of (entries_of thread history))
counted_within thread history end are =
    let all = all_counted (entries_of thread history) in
    let reads = are.reads in
    let writes = are.writes in
    let fails = are.fails in
    omega (arith, all, reads, writes, fails)

-- and so they are below 2 to the 45 together, however large the budget may be
pub few_counted : {I S : Type 0} (set : InstructionSet I S) (program : Program) (size : Numbers) (budget : ℕ) (start : MachineOf I S) (history : List Entry) (end : GuestEnd) → budget ≤ most_budget
    → IsEndOn set program size budget start history end → length (accesses_of (entries_of end.thread history)) ≤ most_accesses_in end.steps
    → accesses_counted (counts_in end) < 2 ^ 45
few_counted set program size budget start history end small is few =
    let counted = counted_within end.thread history end is.counts in
    let within : end.steps ≤ budget = steps_within set program budget start _ end.stop end.steps end.out is.ends in
    omega (arith, small, few, counted, within)
