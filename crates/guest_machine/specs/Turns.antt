-- A run of all guest threads on one host thread, in an order that a number fixes.
use Rattle.std.specs.Prelude.{◌≡◌, ℕ, ◌+◌, ◌*◌, ◌/◌, ◌%◌, ◌^◌, ◌<◌, ◌==◌, not, List, [], ◌∷◌, ◌++◌, length, filter, slice_get, Option, Some}
use Rattle.std.specs.List.{range_with_len}
use Rattle.llsc_base.specs.Images.{Program}
use Rattle.llsc_base.specs.Sizes.{Numbers}
use Rattle.history.specs.declared.entry.Access.{Access}
use Rattle.llsc_base.specs.declared.outside.Ask.{Ask}
use Rattle.llsc_base.specs.declared.outside.Stop.{Stop}
use Rattle.guest_calls.specs.Run.{Asks, Ends}
use Rattle.guest_calls.specs.Pairs.{pairs_in}
use Rattle.guest_thread.specs.Accesses.{access_by, monitor_of}
use Rattle.guest_thread.specs.Start.{thread_start}
use Rattle.run_record.specs.Limits.{most_accesses}
use Rattle.guest_core.specs.Machine.{InstructionSet}

-- the next number after a number
abbrev pub drawn : ℕ → ℕ
drawn x = (x * 6364136223846793005 + 1442695040888963407) % 2 ^ 64

-- whose turn a number gives, of the threads that have not stopped: the one at the place that its upper bits name
abbrev pub turn_of : ℕ → List ℕ → Option ℕ
turn_of x live = slice_get live (x / 2 ^ 33 % length live)

abbrev pub without : ℕ → List ℕ → List ℕ
without t threads = filter (λ other. not (other == t)) threads

module _ {I S : Type 0} (set : InstructionSet I S) where
  -- Threads take turns. Each turn draws a number, and is that thread's whose turn it then is; the thread makes one access,
  -- or stops. So far the last number is x, these threads have not stopped, and these accesses were made, in order.
  pub data Takes (program : Program) (size : Numbers) (seed budget : ℕ) : (x : ℕ) → (live : List ℕ) → List Access → Type 0 where
    begins : Takes program size seed budget seed (range_with_len 0 size.threads) []
    makes : (x : ℕ) (live : List ℕ) (accesses : List Access) (t : ℕ) (ask : Ask)
        → Takes program size seed budget x live accesses
        → turn_of (drawn x) live ≡ Some t
        → Asks set program budget (thread_start set program size size.threads t) (pairs_in t accesses) ask
        → Takes program size seed budget (drawn x) live (accesses ++ access_by (monitor_of program size accesses) t ask ∷ [])
    stops : (x : ℕ) (live : List ℕ) (accesses : List Access) (t : ℕ) (stop : Stop) (steps : ℕ) (output : List ℕ)
        → Takes program size seed budget x live accesses
        → turn_of (drawn x) live ≡ Some t
        → Ends set program budget (thread_start set program size size.threads t) (pairs_in t accesses) stop steps output
        → Takes program size seed budget (drawn x) (without t live) accesses

  -- all threads have stopped, and these were the accesses
  abbrev pub IsTrace : Program → Numbers → ℕ → ℕ → List Access → Type 0
  IsTrace program size seed budget accesses = (x : ℕ) × Takes program size seed budget x [] accesses

  -- the run has more accesses than a record may have
  abbrev pub IsTooLong : Program → Numbers → ℕ → ℕ → Type 0
  IsTooLong program size seed budget =
      (x : ℕ) × (live : List ℕ) × (accesses : List Access) × (Takes program size seed budget x live accesses × (most_accesses < length accesses))
