-- Only proofs and inner contracts need these words.
-- How the threads of a trace stand between two turns.
use Rattle.std.specs.Prelude.{◌≡◌, ℕ, ◌+◌, ◌-◌, ◌<◌, ◌≤◌, ◌==◌, Bool, Option, Some, None, List, [], ◌∷◌, length, All, slice_index_or, map}
use Rattle.std.specs.List.{list_any}
use Rattle.std.specs.Option.{is_none, IsSome}
use Rattle.llsc_base.specs.Images.{Program}
use Rattle.llsc_base.specs.Sizes.{Numbers}
use Rattle.history.specs.ArmLegal.{IsArmLegal}
use Rattle.history.specs.Monitor.{Monitor, at_rest_by}
use Rattle.history.specs.declared.entry.Access.{Access}
use Rattle.llsc_base.specs.declared.outside.Stop.{Stop}
use Rattle.guest_calls.specs.Run.{Pair, Ends}
use Rattle.guest_core.specs.Machine.{MachineOf, InstructionSet}
use Rattle.history.specs.Accesses.{history_of}
use Rattle.guest_calls.specs.Pairs.{pairs_in}
use Rattle.guest_thread.specs.ThreadState.{IsReadyIn, ThreadOf, thread_in}
use Rattle.guest_thread.specs.Start.{first_state, thread_start}
use Rattle.guest_thread.specs.Under.{HasCome}
use Rattle.guest_thread.specs.declared.ends.GuestEnd.{GuestEnd}
use Rattle.guest_thread.specs.Counting.{AreCounts, counts_in}
use Rattle.run_record.specs.Limits.{IsAccess, most_accesses}
use Rattle.guest_machine.specs.Turns.{Takes}
use Rattle.guest_thread.specs.Accesses.{monitor_of}
use Rattle.guest_machine.specs.declared.seats.Seat.{Seat}
use Rattle.guest_machine.specs.declared.turns.Turns.{Turns}

-- a thread is one of some
abbrev pub is_one_of : List ℕ → ℕ → Bool
is_one_of threads t = list_any (λ other. other == t) threads

-- a thread whose core is a machine of an instruction set, and its stop once it has stopped
pub record SeatOf (I S : Type 0) : Type 0 where
  pub guest : ThreadOf I S
  pub stop : Option Stop

-- the thread whose core is the machine that the core of a thread stands for
abbrev pub seat_in : {C R I S : Type 0} → (C → MachineOf I S) → Seat C R → SeatOf I S
seat_in machine seat = record { guest = thread_in machine seat.guest; stop = seat.stop }

module _ {I S : Type 0} (set : InstructionSet I S) where
  -- a thread at its start
  abbrev pub first_seat : Program → Numbers → ℕ → SeatOf I S
  first_seat program size t = record { guest = first_state set program size size.threads t; stop = None }

  -- a thread with its accesses and replies: it has come so far and may be asked what it does next, or it has stopped, with
  -- its steps and its output
  abbrev pub StandsBy : Program → ℕ → MachineOf I S → List Pair → ThreadOf I S → Option Stop → Type 0
  StandsBy program budget start pairs guest None = HasCome set program budget start pairs guest × IsReadyIn (length program.bytes) budget guest
  StandsBy program budget start pairs guest (Some stop) = Ends set program budget start pairs stop guest.steps guest.output

  -- a thread at its seat: it stands so with its accesses, and it is one of those that have not stopped just where its seat has
  -- no stop
  pub record IsSeated (program : Program) (size : Numbers) (budget : ℕ) (accesses : List Access) (live : List ℕ) (t : ℕ) (seat : SeatOf I S) : Type 0 where
    pub tells : is_one_of live t ≡ is_none seat.stop
    pub stands : StandsBy program budget (thread_start set program size size.threads t) (pairs_in t accesses) seat.guest seat.stop

  -- The turns so far have led here: to the last number, the threads that have not stopped, all threads, memory, and the
  -- accesses. Memory is that after the accesses, Arm allows them, and a record may have them.
  pub record HaveTurned (program : Program) (size : Numbers) (seed budget : ℕ)
      (last : ℕ) (live : List ℕ) (all : List (SeatOf I S)) (monitor : Monitor) (accesses : List Access) : Type 0 where
    pub takes : Takes set program size seed budget last live accesses
    pub few : length accesses ≤ most_accesses
    pub below : All (λ t. t < size.threads) live
    pub many : length all ≡ size.threads
    pub seats : (t : ℕ) (other : SeatOf I S) → t < size.threads
        → IsSeated program size budget accesses live t (slice_index_or all t other)
    pub memory : monitor ≡ monitor_of program size accesses
    pub bytes : length monitor.memory ≡ length program.bytes
    pub marks : length monitor.marks ≡ size.threads
    pub legal : IsArmLegal (at_rest_by size.granule program.bytes size.threads) (history_of accesses)
    pub sound : All (IsAccess size.threads) accesses

  -- the same of threads on cores that stand for machines of the set
  abbrev pub AreUnderWay : {C R : Type 0} → (C → MachineOf I S) → Program → Numbers → ℕ → ℕ → Turns C R → Type 0
  AreUnderWay machine program size seed budget turns =
      HaveTurned program size seed budget turns.number turns.live.items (map (seat_in machine) turns.seats.items) turns.memory turns.accesses.items

-- how far a trace is from its end at most: the accesses that it may still make, and the threads that have not stopped
abbrev pub left_of : {C R : Type 0} → Turns C R → ℕ
left_of turns = most_accesses - length turns.accesses.items + length turns.live.items

-- the end of a thread that has stopped: its stop, its steps, its output, and the counts of its accesses
pub record IsEndOfSeat {C R : Type 0} (accesses : List Access) (t : ℕ) (seat : Seat C R) (end : GuestEnd) : Type 0 where
  pub thread : end.thread ≡ t
  pub stopped : seat.stop ≡ Some end.stop
  pub steps : end.steps ≡ seat.guest.steps
  pub output : end.out ≡ seat.guest.output
  pub counts : AreCounts t (history_of accesses) (counts_in end)

-- the ends of threads from one on, each of which has stopped
abbrev pub AreEndsOfSeats : {C R : Type 0} → List Access → ℕ → List (Seat C R) → List GuestEnd → Type 0
AreEndsOfSeats accesses t [] [] = Unit {0}
AreEndsOfSeats accesses t [] (end ∷ ends) = ⊥
AreEndsOfSeats accesses t (seat ∷ seats) [] = ⊥
AreEndsOfSeats accesses t (seat ∷ seats) (end ∷ ends) = IsEndOfSeat accesses t seat end × AreEndsOfSeats accesses (t + 1) seats ends

-- all of some threads have stopped
abbrev pub HaveStopped : {C R : Type 0} → List (Seat C R) → Type 0
HaveStopped {C} {R} seats = (t : ℕ) (other : Seat C R) → t < length seats → IsSome (slice_index_or seats t other).stop
