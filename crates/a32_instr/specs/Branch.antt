-- Branches (DDI 0406C A8.8.18, A8.8.25 to A8.8.27) and the supervisor call (A8.8.228).
use Rattle.std.specs.Prelude.{ℕ, ◌+◌, ◌^◌, if◌then◌else◌, Bool, ℤ, pos, ◌+ℤ◌, ◌*ℤ◌, unsigned_abs, slice_index, slice_set}
use Rattle.std.specs.Int.{int_rem_euclid}
use Rattle.llsc_base.specs.declared.outside.CallAsk.{CallAsk}
use Rattle.a32_instr.specs.State.{State, Effect, jumps, register}
use Rattle.llsc_base.specs.Effects.{completes, calls}
use Rattle.llsc_base.specs.Words.{low32}

-- so many words from the address of the instruction plus 8, modulo 2 to the 32
unfoldable pub target_of : ℕ → ℤ → ℕ
target_of pc words = unsigned_abs (int_rem_euclid (pos (pc + 8) +ℤ (pos 4 *ℤ words)) (pos (2 ^ 32)))

-- with a link, r14 has the address of the next instruction
abbrev pub linked : Bool → State → State
linked link state = record state { regs = if link then slice_set state.regs 14 (low32 (state.pc + 4)) else state.regs }

-- the state after a branch
abbrev pub branched : Bool → ℤ → State → State
branched link words state = record (linked link state) { pc = target_of state.pc words }

abbrev pub branches : Bool → ℤ → State → Effect
branches link words state = completes (branched link words state)

-- a branch goes to the address that a register has; it is read before the link is written
abbrev pub branches_to : Bool → ℕ → State → Effect
branches_to link address state = jumps (linked link state) address

abbrev pub branches_by_register : Bool → ℕ → State → Effect
branches_by_register link rm state = branches_to link (register state rm) state

-- a guest call has its number in r7, and r0 to r2 as its arguments
abbrev pub call_of : ℕ → State → CallAsk
call_of imm state = record {
  imm = imm;
  number = slice_index state.regs 7;
  a = slice_index state.regs 0;
  b = slice_index state.regs 1;
  c = slice_index state.regs 2;
}

abbrev pub supervisor_call : ℕ → State → Effect
supervisor_call imm state = calls (call_of imm state)
