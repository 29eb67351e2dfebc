-- What is told of the stack guest, by the history that goes with an answer.
use Rattle.std.specs.Prelude.{◌≡◌, ℕ, ◌*◌, ◌++◌, List}
use Rattle.llsc_base.specs.Sizes.{Numbers}
use Rattle.history.specs.Monitor.{at_rest_by, monitor_after}
use Rattle.history.specs.Parts.{accesses_of}
use Rattle.history.specs.declared.entry.Entry.{Entry}
use Rattle.llsc_words.specs.Request.{Pool, Request, Run}
use Rattle.llsc_words.specs.declared.formats.Format.TheVariants.{Elf}
use Rattle.llsc_words.specs.declared.sets.SetName.TheVariants.{A32}
use Rattle.stack_runs.specs.Guest.{stack_image}
use Rattle.stack_runs.specs.Hands.{EachIsSomewhere}
use Rattle.stack_runs.specs.Stacks.{HoldsEachOnce, counts_below}

-- A request runs all threads of a machine, each up to so many steps, as A32 threads of an ELF file that start no others: beside each
-- other, or on few workers.
pub data RunsThreads (size : Numbers) (budget : ℕ) : Request → Type 0 where
  beside : (name : List ℕ) → RunsThreads size budget (Run name Elf A32 size.threads 0 size budget)
  on_workers : (name : List ℕ) (workers slice : ℕ) → RunsThreads size budget (Pool name Elf size workers slice budget)

-- the memory that accesses leave, from the guest's image on
abbrev pub memory_left : (nodes rounds : ℕ) → Numbers → List Entry → List ℕ
memory_left nodes rounds size accesses =
    (monitor_after (at_rest_by size.granule (stack_image nodes rounds size).bytes size.threads) accesses).memory

-- At every moment of a history each node is once on the stack, or in the hand of one thread.
abbrev pub AreNeverLost : (nodes rounds : ℕ) → Numbers → List Entry → Type 0
AreNeverLost nodes rounds size history = (front back : List Entry) → accesses_of history ≡ front ++ back
    → EachIsSomewhere nodes size.threads (memory_left nodes rounds size front) front

-- Behind it each node is on the stack, and together they count every round.
pub record HaveComeBack (nodes rounds : ℕ) (size : Numbers) (history : List Entry) : Type 0 where
  pub each_once : HoldsEachOnce nodes (memory_left nodes rounds size (accesses_of history))
  pub all_counted : counts_below (memory_left nodes rounds size (accesses_of history)) nodes ≡ size.threads * rounds
