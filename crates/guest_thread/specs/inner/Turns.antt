-- Only proofs and inner contracts need these words.
-- What one turn makes of a guest thread between two accesses, none of which is awaited.
use Rattle.std.specs.Prelude.{◌≡◌, ℕ, ◌+◌, ◌<◌, ◌≤◌, nat_lt, if◌then◌else◌, [], ◌∷◌, ◌++◌, length, Option, Some, None}
use Rattle.llsc_base.specs.declared.outside.Stop.TheVariants as stop
use Rattle.guest_core.specs.Machine.{InstructionSet, returned_of, AwaitsNothing}
use Rattle.guest_calls.specs.Calls.{CallEffect, exits, answers, writes_bytes, most_output}
use Rattle.guest_calls.specs.Run.{byte_load}
use Rattle.guest_thread.specs.declared.guests.Printing.{Printing}
use Rattle.guest_thread.specs.declared.guests.Called.{Called}
use Rattle.guest_thread.specs.declared.guests.Called.TheVariants as called
use Rattle.guest_thread.specs.declared.guests.Turn.{Turn}
use Rattle.guest_thread.specs.declared.guests.Turn.TheVariants as turn
use Rattle.guest_thread.specs.ThreadState.{ThreadOf}

-- no write is under way, and its core waits for nothing
pub record IsAtTurn {I S : Type 0} (standing : ThreadOf I S) : Type 0 where
  pub printing : standing.printing ≡ None
  pub ready : AwaitsNothing standing.cpu.phase

-- the same, one step on
pub record IsOneStepOn {I S : Type 0} (old new : ThreadOf I S) : Type 0 where
  pub at_turn : IsAtTurn new
  pub steps : new.steps ≡ old.steps + 1

-- a write none of whose bytes was loaded
abbrev pub write_of : (from count : ℕ) → Printing
write_of from count = record { from = from; len = count; loaded = 0 }

-- what a turn comes to by a call, None where the call was answered
abbrev pub turn_by : Called → Option Turn
turn_by called.Answered = None
turn_by (called.Exits code) = Some (turn.Ended (stop.Exit code))
turn_by (called.Writes from) = Some (turn.Asks (byte_load from))

-- a write begins, whose bytes lie in memory of so many bytes and have room in the output, and wants its first byte
pub record BeginsWrite {I S : Type 0} (mem from count : ℕ) (old : ThreadOf I S) (result : Called) (new : ThreadOf I S) : Type 0 where
  pub wants : result ≡ called.Writes from
  pub moved : new ≡ record old { printing = Some (write_of from count) }
  pub some : 0 < count
  pub inside : from + count ≤ mem
  pub room : length old.output + count ≤ most_output

-- a thread after a byte of its write that isn't the last one
abbrev pub after_front_byte : {I S : Type 0} → ThreadOf I S → Printing → ℕ → ThreadOf I S
after_front_byte old printing byte = record old {
  output = old.output ++ byte ∷ [];
  printing = Some (record printing { loaded = printing.loaded + 1 });
}

module _ {I S : Type 0} (set : InstructionSet I S) where
  -- What a call makes of a thread that waits for its answer, in memory of so many bytes: the exit is one step, and so is
  -- an answer.
  abbrev pub AfterCall : ℕ → CallEffect → ThreadOf I S → Called → ThreadOf I S → Type 0
  AfterCall mem (exits code) old result new =
      (result ≡ called.Exits code) × (new ≡ record old { steps = old.steps + 1 })
  AfterCall mem (answers value) old result new =
      (result ≡ called.Answered) × (new ≡ record old { cpu = returned_of set old.cpu value; steps = old.steps + 1 })
  AfterCall mem (writes_bytes from count) old result new = BeginsWrite mem from count old result new

  -- after the last one: the call is answered by the number of the bytes, which is one step
  abbrev pub after_last_byte : ThreadOf I S → Printing → ℕ → ThreadOf I S
  after_last_byte old printing byte = record {
    cpu = returned_of set old.cpu printing.len;
    steps = old.steps + 1;
    output = old.output ++ byte ∷ [];
    printing = None;
  }

  abbrev pub after_byte : ThreadOf I S → Printing → ℕ → ThreadOf I S
  after_byte old printing byte =
      if nat_lt (printing.loaded + 1) printing.len then after_front_byte old printing byte else after_last_byte old printing byte
