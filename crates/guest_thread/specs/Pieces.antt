-- A piece of a thread's run on a memory that threads share: from a point between two instructions to a later one, to a call that
-- starts a thread, or to the thread's end.
use Rattle.std.specs.Prelude.{◌≡◌, ◌⊎◌, ℕ, ◌+◌, ◌*◌, ◌<◌, ◌≤◌, Bool, true, List, ◌++◌, length}
use Rattle.atomic_table.specs.Seated.{TableId}
use Rattle.llsc_base.specs.Images.{Program}
use Rattle.history.specs.Started.{MayAct}
use Rattle.history.specs.Starts.{made_by, starts_in}
use Rattle.history.specs.declared.entry.Entry.{Entry}
use Rattle.shared_memory.specs.Origin.{Origin}
use Rattle.shared_memory.specs.Seen.{IsFront, IsSingle}
use Rattle.llsc_base.specs.declared.outside.CallAsk.{CallAsk}
use Rattle.llsc_base.specs.declared.outside.Stop.TheVariants.{Budget, Exit, TagLimit}
use Rattle.guest_core.specs.Machine.{MachineOf, InstructionSet, between, IsCalling}
use Rattle.guest_calls.specs.Bound.{most_accesses_in}
use Rattle.guest_calls.specs.Pairs.{pairs_of}
use Rattle.guest_calls.specs.Run.{Pair, PointOf, ReachesBy, EndsOnFrom}
use Rattle.guest_thread.specs.Counting.{HaveGrownBy, accesses_counted, counts_in}
use Rattle.guest_thread.specs.Outcome.{IsSpent}
use Rattle.guest_thread.specs.Under.{CallsToStart}
use Rattle.guest_thread.specs.declared.counts.Counts.{Counts}
use Rattle.guest_thread.specs.declared.pieces.Part.{Part}
use Rattle.guest_thread.specs.declared.pieces.Paused.{Paused}
use Rattle.guest_thread.specs.declared.pieces.Paused.TheVariants.{Ended, Start, Pause}
use Rattle.guest_thread.specs.declared.running.Finished.{Finished}

-- ---- what a part and an answer have

-- the counts of a part
abbrev pub counts_by : {P C : Type 0} → Part P C → Counts
counts_by part = record { reads = part.reads; writes = part.writes; fails = part.fails }

-- no more accesses are counted than so many steps and so much output allow
abbrev pub CountFew : Counts → (steps : ℕ) → (output : List ℕ) → Type 0
CountFew counts steps output = accesses_counted counts ≤ 17 * steps + length output

-- the pass that an answer gives back, and its counts
abbrev pub pass_of : {P C : Type 0} → Paused P C → P
pass_of (Ended done) = done.pass
pass_of (Start part entry arg) = part.pass
pass_of (Pause part) = part.pass

abbrev pub counts_after : {P C : Type 0} → Paused P C → Counts
counts_after (Ended done) = counts_in done.end
counts_after (Start part entry arg) = counts_by part
counts_after (Pause part) = counts_by part

-- the thread has made few accesses, by its steps and its output; where its end is in the middle of an instruction, by 16 more, and so
-- at a call, whose step is still to come
abbrev pub HasMadeFew : {P C : Type 0} → (accesses : ℕ) → Paused P C → Type 0
HasMadeFew accesses (Ended done) = accesses ≤ most_accesses_in done.end.steps
HasMadeFew accesses (Start part entry arg) = accesses ≤ 16 * (part.steps + 1) + length part.out
HasMadeFew accesses (Pause part) = accesses ≤ 16 * part.steps + length part.out

-- It has ended, within the steps that it was to make; with all of them made only by the exit call, which is one, or since its budget
-- is used up. A store is refused only where the memory counts a class's writes, and that of the address has none left.
pub record HasEndedAt {P : Type 0} (origin : Origin) (history : List Entry) (upto budget t steps : ℕ) (done : Finished P) : Type 0 where
  pub thread : done.end.thread ≡ t
  pub least : steps ≤ done.end.steps
  pub most : done.end.steps ≤ upto
  pub last : done.end.steps ≡ upto → (done.end.stop ≡ Budget) ⊎ ((code : ℕ) × (done.end.stop ≡ Exit code))
  pub left : (code : ℕ) → done.end.stop ≡ Exit code → steps < done.end.steps
  pub used : done.end.stop ≡ Budget → done.end.steps ≡ budget
  pub spends : (addr : ℕ) → done.end.stop ≡ TagLimit addr → origin.spends ≡ true
  pub spent : (addr : ℕ) → done.end.stop ≡ TagLimit addr → IsSpent origin.size history addr

-- the threads of an instruction set on cores that stand for its machines
module _ {I S : Type 0} (set : InstructionSet I S) {C : Type 0} (machine : C → MachineOf I S) where
  -- ---- what a run comes to

  -- a run from a point comes to the answer with these accesses and replies: to the thread's end, to a call that starts a thread, or to
  -- where the part stands
  abbrev pub ByAnswer : {P : Type 0} → Bool → Program → ℕ → PointOf I S → List Pair → Paused P C → Type 0
  ByAnswer stocked program budget from pairs (Ended done) = EndsOnFrom set stocked program budget from pairs done.end.stop done.end.steps done.end.out
  ByAnswer stocked program budget from pairs (Start part entry arg) =
      (call : CallAsk) × CallsToStart set stocked program budget from pairs call (machine part.cpu) part.steps part.out × (entry ≡ (set.call_of call).a) × (arg ≡ (set.call_of call).b)
  ByAnswer stocked program budget from pairs (Pause part) = ReachesBy set stocked program budget from pairs (machine part.cpu) part.steps part.out

  -- ---- how it stands

  -- it awaits the answer to a call that starts a thread, which is a step, and may go on behind it
  pub record HasCalledAt {P : Type 0} (starts : Bool) (upto steps : ℕ) (part : Part P C) : Type 0 where
    pub asked : starts ≡ true
    pub calling : IsCalling (machine part.cpu).phase
    pub least : steps ≤ part.steps
    pub within : part.steps < upto
    pub few : CountFew (counts_by part) (part.steps + 1) part.out

  -- it has made all steps that it was to make, and stands between two instructions
  pub record HasPausedAt {P : Type 0} (upto budget : ℕ) (part : Part P C) : Type 0 where
    pub between : machine part.cpu ≡ between (machine part.cpu).state
    pub steps : part.steps ≡ upto
    pub within : upto < budget
    pub few : CountFew (counts_by part) part.steps part.out

  abbrev pub StandsAt : {P : Type 0} → Origin → List Entry → Bool → (upto budget t steps : ℕ) → Paused P C → Type 0
  StandsAt origin history starts upto budget t steps (Ended done) = HasEndedAt origin history upto budget t steps done
  StandsAt origin history starts upto budget t steps (Start part entry arg) = HasCalledAt starts upto steps part
  StandsAt origin history starts upto budget t steps (Pause part) = HasPausedAt upto budget part

  -- ---- a piece

  module _ {P : Type 0} (home : P → TableId) (numbers : P → ℕ → Bool) (seen : P → List Entry) where
    -- A thread has gone on from a part: whoever has come to where that stood, with the accesses before, comes with some more, those that
    -- its pass has seen since, to the answer. It has started no thread by itself, and its counts have grown by just these accesses.
    pub record IsPiece (mem : TableId) (origin : Origin) (program : Program) (starts : Bool) (upto budget t : ℕ) (part : Part P C) (answer : Paused P C) : Type 0 where
      pub memory : home (pass_of answer) ≡ mem
      pub single : IsSingle t (numbers (pass_of answer))
      pub front : IsFront (seen part.pass) (seen (pass_of answer))
      pub may_act : MayAct origin.first t (seen (pass_of answer))
      pub unstarted : starts_in t (seen (pass_of answer)) ≡ starts_in t (seen part.pass)
      pub counts : HaveGrownBy t front.0 (counts_by part) (counts_after answer)
      pub pairs : List Pair
      pub added : pairs_of t (seen (pass_of answer)) ≡ pairs_of t (seen part.pass) ++ pairs
      pub comes : (from : PointOf I S) (before : List Pair) → ReachesBy set starts program budget from before (machine part.cpu) part.steps part.out
          → ByAnswer starts program budget from (before ++ pairs) answer
      pub accesses : made_by t (seen part.pass) ≤ 16 * part.steps + length part.out → HasMadeFew (made_by t (seen (pass_of answer))) answer
      pub stands : StandsAt origin (seen (pass_of answer)) starts upto budget t part.steps answer
