-- Only proofs and inner contracts need these words.
-- Where the accesses before have brought the threads and memory, while a record is checked.
use Rattle.std.specs.Prelude.{◌≡◌, ℕ, ◌<◌, ◌≤◌, List, [], ◌∷◌, ◌++◌, All, length, slice_index_or}
use Rattle.llsc_base.specs.Images.{Program}
use Rattle.llsc_base.specs.Sizes.{Numbers}
use Rattle.history.specs.Monitor.{Monitor}
use Rattle.history.specs.declared.entry.Access.{Access}
use Rattle.guest_calls.specs.Pairs.{pairs_in}
use Rattle.guest_thread.specs.ThreadState.{IsReadyIn, ThreadStateOf, thread_in}
use Rattle.guest_thread.specs.Start.{thread_start}
use Rattle.guest_thread.specs.Under.{HasCome}
use Rattle.guest_thread.specs.Accesses.{monitor_of}
use Rattle.guest_thread.specs.Ended.{HasEnded}
use Rattle.run_checker.specs.Verdict.{AsksNext, IsRight}
use Rattle.run_checker.specs.Sighted.{IsSighted}
use Rattle.run_checker.specs.declared.sightings.Sighting.{Sighting}
use Rattle.llsc_base.specs.declared.outside.Ask.{Ask}
use Rattle.run_checker.specs.declared.checker.Checker.{Checker}
use Rattle.guest_core.specs.Machine.{MachineOf, InstructionSet}

-- the threads of an instruction set on cores that stand for its machines
module _ {I S : Type 0} (set : InstructionSet I S) {C : Type 0} (machine : C → MachineOf I S) where
  -- a thread is where its accesses have brought it
  abbrev pub IsBrought : Program → Numbers → ℕ → List Access → ℕ → ThreadStateOf C → Type 0
  IsBrought program size budget early t guest = HasCome set program budget (thread_start set program size size.threads t) (pairs_in t early) (thread_in machine guest)

  -- an access is right and is sighted so, and has brought its thread and memory on
  pub record BringsOn (program : Program) (size : Numbers) (budget : ℕ) (early : List Access) (access : Access) (sighting : Sighting) (guest : ThreadStateOf C) (memory : Monitor) : Type 0 where
    pub right : IsRight set program size budget early access
    pub sighted : IsSighted set program size budget early access sighting
    pub brought : IsBrought program size budget (early ++ access ∷ []) access.thread guest
    pub left : memory ≡ monitor_of program size (early ++ access ∷ [])

  -- each thread is where its accesses have brought it, and memory is as the accesses have left it
  pub record AreBrought {R : Type 0} (program : Program) (size : Numbers) (budget : ℕ) (early : List Access) (checker : Checker C R) : Type 0 where
    pub guests : (t : ℕ) (d : ThreadStateOf C) → t < length checker.guests.items → IsBrought program size budget early t (slice_index_or checker.guests.items t d)
    pub memory : checker.memory ≡ monitor_of program size early

module _ {I S C : Type 0} (machine : C → MachineOf I S) where
  -- each thread may go on, with memory of so many bytes, no more than the greatest machine's, and a mark for each thread
  pub record MayGoOn {R : Type 0} (mem budget : ℕ) (checker : Checker C R) : Type 0 where
    pub small : mem ≤ 16777216
    pub ready : All (λ guest. IsReadyIn mem budget (thread_in machine guest)) checker.guests.items
    pub bytes : length checker.memory.memory ≡ mem
    pub marks : length checker.memory.marks ≡ length checker.guests.items

module _ {I S : Type 0} (set : InstructionSet I S) where
  -- one of so many threads asks for an access next, given the accesses before
  pub record SomeAsks (program : Program) (size : Numbers) (budget : ℕ) (early : List Access) (threads : ℕ) : Type 0 where
    pub thread : ℕ
    pub ask : Ask
    pub known : thread < threads
    pub next : AsksNext set program size budget early thread ask

  -- each of the threads below a number has ended
  abbrev pub AllHaveEnded : Program → Numbers → ℕ → List Access → ℕ → Type 0
  AllHaveEnded program size budget early threads = (t : ℕ) → t < threads → HasEnded set program size budget early t
