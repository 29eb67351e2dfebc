-- What the code makes of a guest call.
use Rattle.std.specs.Prelude.{ℕ, ◌+◌, ◌<◌, ◌≤◌}
use Rattle.guest_core.specs.Machine.{MachineOf, InstructionSet, returned_of}
use Rattle.guest_calls.specs.declared.calls.CallStep.{CallStep}
use Rattle.guest_calls.specs.declared.calls.CallStep.TheVariants.{Exit, Answered, Bytes}
use Rattle.guest_calls.specs.Calls.{CallEffect, exits, answers, writes_bytes, most_output}

-- the step of a call's effect
abbrev pub step_of : CallEffect → CallStep
step_of (exits code) = Exit code
step_of (answers value) = Answered
step_of (writes_bytes from count) = Bytes from count

-- the core that made the call: one whose call is answered is between two instructions, and any other is as it was
abbrev pub after_call : {I S : Type 0} → InstructionSet I S → MachineOf I S → CallEffect → MachineOf I S
after_call set machine (exits code) = machine
after_call set machine (answers value) = returned_of set machine value
after_call set machine (writes_bytes from count) = machine

-- bytes that are to be loaded are some, lie in memory, and have room in the output
abbrev pub HaveRoom : (mem written : ℕ) → CallStep → Type 0
HaveRoom mem written (Exit code) = Unit {0}
HaveRoom mem written Answered = Unit {0}
HaveRoom mem written (Bytes from len) = (0 < len) × (from + len ≤ mem) × (written + len ≤ most_output)
