-- The thread of a RISC-V guest, which may be in the middle of an instruction.
use Rattle.std.specs.Prelude.{ℕ, [], ◌∷◌, Result}
use Rattle.llsc_base.specs.Images.{Program}
use Rattle.llsc_base.specs.declared.outside.Stop.{Stop}
use Rattle.guest_core.specs.Fetched.{fetched}
use Rattle.guest_core.specs.Machine.{MachineOf, InstructionSet, start_in}
use Rattle.rv32_guest.specs.declared.instructions.RvInstr.{RvInstr}
use Rattle.rv32_guest.specs.State.{RvState, answered}
use Rattle.rv32_guest.specs.Calls.{call_of}
use Rattle.rv32_guest.specs.Table.{table, meaning}
use Rattle.rv32_guest.specs.Effect.{acts}

abbrev pub Machine : Type 0
Machine = MachineOf RvInstr RvState

-- the instruction at an address, or the stop where there is none
abbrev pub instr_at : Program → ℕ → Result RvInstr Stop
instr_at = fetched (meaning table)

-- The start of thread t of n: x10 has t, x11 has n, x2 has the top of the stack, and every other register is 0.
abbrev pub state_at_start : (entry t n sp : ℕ) → RvState
state_at_start entry t n sp = record {
  regs = 0 ∷ 0 ∷ sp ∷ 0 ∷ 0 ∷ 0 ∷ 0 ∷ 0 ∷ 0 ∷ 0 ∷ t ∷ n ∷ 0 ∷ 0 ∷ 0 ∷ 0 ∷ 0 ∷ 0 ∷ 0 ∷ 0 ∷ 0 ∷ 0 ∷ 0 ∷ 0 ∷ 0 ∷ 0 ∷ 0 ∷ 0 ∷ 0 ∷ 0 ∷ 0 ∷ 0 ∷ [];
  pc = entry;
}

-- the instructions of RV32I and Zalrsc
abbrev pub rv32 : InstructionSet RvInstr RvState
rv32 = record {
  start = state_at_start;
  pc_of = λ state. state.pc;
  found = λ program state. instr_at program state.pc;
  begins = λ instr program state. acts instr program [] state;
  acts = acts;
  answered = answered;
  call_of = call_of;
}

abbrev pub start_of : ℕ → ℕ → ℕ → ℕ → Machine
start_of = start_in rv32
