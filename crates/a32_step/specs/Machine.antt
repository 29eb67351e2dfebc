-- The thread of an A32 guest, which may be in the middle of an instruction.
use Rattle.std.specs.Prelude.{ℕ, [], ◌∷◌, false, Result}
use Rattle.llsc_base.specs.Images.{Program}
use Rattle.a32_instr.specs.declared.instructions.Instr.{Instr}
use Rattle.llsc_base.specs.declared.outside.Stop.{Stop}
use Rattle.a32_instr.specs.State.{State, Effect, answered}
use Rattle.a32_instr.specs.Table.{table, meaning}
use Rattle.a32_instr.specs.Effect.{acts, effect_of}
use Rattle.guest_core.specs.Fetched.{fetched}
use Rattle.guest_core.specs.Machine.{MachineOf, InstructionSet, next_of, after_of, start_in}

-- the thread of an A32 guest
abbrev pub Machine : Type 0
Machine = MachineOf Instr State

-- the instruction at an address, or the stop where there is none
abbrev pub instr_at : Program → ℕ → Result Instr Stop
instr_at = fetched (meaning table)

-- The start of thread t of n: r0 has t, r1 has n, r13 has the top of the stack, every other register is 0 and every
-- flag is clear.
abbrev pub state_at_start : (entry t n sp : ℕ) → State
state_at_start entry t n sp = record {
  regs = t ∷ n ∷ 0 ∷ 0 ∷ 0 ∷ 0 ∷ 0 ∷ 0 ∷ 0 ∷ 0 ∷ 0 ∷ 0 ∷ 0 ∷ sp ∷ 0 ∷ [];
  flags = record { n = false; z = false; c = false; v = false };
  pc = entry;
}

-- the A32 instructions
abbrev pub a32 : InstructionSet Instr State
a32 = record {
  start = state_at_start;
  pc_of = λ state. state.pc;
  found = λ program state. instr_at program state.pc;
  begins = λ instr program state. effect_of instr program [] state;
  acts = acts;
  answered = answered;
  call_of = λ call. call;
}

abbrev pub next_effect : Program → Machine → Effect
next_effect = next_of a32

abbrev pub after_next : Program → Machine → Machine
after_next = after_of a32

abbrev pub start_of : ℕ → ℕ → ℕ → ℕ → Machine
start_of = start_in a32
