-- Where a guest thread begins.
use Rattle.std.specs.Prelude.{ℕ, ◌+◌, ◌*◌, [], None}
use Rattle.llsc_base.specs.Images.{Program}
use Rattle.llsc_base.specs.Sizes.{Numbers, room_of}
use Rattle.guest_core.specs.Machine.{MachineOf, InstructionSet, start_in}
use Rattle.guest_thread.specs.ThreadState.{ThreadOf}

module _ {I S : Type 0} (set : InstructionSet I S) where
  -- thread t of a program begins at its entry, with its own number and how many threads begin by themselves; its stack is
  -- the 4096 bytes number t behind the room, counted from 0, and its stack pointer their end
  abbrev pub thread_start : Program → Numbers → (first t : ℕ) → MachineOf I S
  thread_start program size first t = start_in set program.entry t first (room_of size + 4096 * (t + 1))

  -- it has made no step, has written nothing, and is in the middle of no write
  abbrev pub first_state : Program → Numbers → (first t : ℕ) → ThreadOf I S
  first_state program size first t = record { cpu = thread_start program size first t; steps = 0; output = []; printing = None }
