-- The registers, flags and PC of a guest thread, and what an instruction may do with them.
use Rattle.std.specs.Prelude.{ℕ, ◌+◌, ◌%◌, ◌==◌, if◌then◌else◌, List, slice_index, slice_set}
use Rattle.a32_instr.specs.declared.conditions.Flags.{Flags}
use Rattle.llsc_base.specs.declared.outside.Stop.TheVariants.{Unpredictable, Thumb}
use Rattle.llsc_base.specs.Effects.{EffectOf, completes, stops}
use Rattle.llsc_base.specs.Words.{low32}

-- r0 to r14 in order, the flags, and the address of the instruction
pub record State : Type 0 where
  pub regs : List ℕ
  pub flags : Flags
  pub pc : ℕ

-- what an A32 instruction does next
abbrev pub Effect : Type 0
Effect = EffectOf State

-- a register as an operand: the PC reads as the address of the instruction plus 8 (DDI 0406C A2.3)
abbrev pub register : State → ℕ → ℕ
register state r = if r == 15 then low32 (state.pc + 8) else slice_index state.regs r

-- the state with the PC after the instruction, which writes no PC
abbrev pub advanced : State → State
advanced state = record state { pc = low32 (state.pc + 4) }

-- one of r0 to r14 set to a value
abbrev pub with_register : State → ℕ → ℕ → State
with_register state r value = record state { regs = slice_set state.regs r value }

-- a write to the PC: only A32 instructions are run, and they stand at multiples of 4 (DDI 0406C A2.3.2)
abbrev pub jumps : State → ℕ → Effect
jumps state value =
    if value % 2 == 1 then stops (Thumb state.pc) else
    if value % 4 == 2 then stops (Unpredictable state.pc) else
    completes (record state { pc = value })

-- the instruction is complete with this value in a register, which may be the PC
abbrev pub writes : State → ℕ → ℕ → Effect
writes state r value = if r == 15 then jumps state value else completes (advanced (with_register state r value))

-- the state after a guest call, with its answer in r0
abbrev pub answered : State → ℕ → State
answered state answer = advanced (with_register state 0 answer)
