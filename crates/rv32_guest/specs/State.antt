-- The registers and the PC of a guest thread, and what an instruction may do with them (The RISC-V Instruction Set Manual,
-- Volume I, "Programmers' Model for Base Integer ISA").
use Rattle.std.specs.Prelude.{ℕ, ◌+◌, ◌%◌, ◌==◌, if◌then◌else◌, List, slice_index, slice_set}
use Rattle.llsc_base.specs.declared.outside.Stop.TheVariants.{Alignment}
use Rattle.llsc_base.specs.Effects.{EffectOf, completes, stops}
use Rattle.llsc_base.specs.Words.{low32}

-- x0 to x31 in order, and the address of the instruction
pub record RvState : Type 0 where
  pub regs : List ℕ
  pub pc : ℕ

abbrev pub Effect : Type 0
Effect = EffectOf RvState

-- a register's value; x0 reads 0
abbrev pub register : RvState → ℕ → ℕ
register state r = if r == 0 then 0 else slice_index state.regs r

-- a register set to a value; x0 keeps its own
abbrev pub with_register : RvState → ℕ → ℕ → RvState
with_register state r value = if r == 0 then state else record state { regs = slice_set state.regs r value }

-- the address of the next instruction
abbrev pub next_pc : RvState → ℕ
next_pc state = low32 (state.pc + 4)

-- the instruction is complete, and the next one follows it
abbrev pub advanced : RvState → RvState
advanced state = record state { pc = next_pc state }

-- the instruction is complete with this value in a register
abbrev pub writes : RvState → ℕ → ℕ → Effect
writes state rd value = completes (advanced (with_register state rd value))

-- A jump, with the address of the next instruction in a register. Instructions stand at multiples of 4, and a jump to another
-- address isn't made ("Control Transfer Instructions").
abbrev pub jumps : RvState → ℕ → ℕ → Effect
jumps state rd target =
    if target % 4 == 0
    then completes (record (with_register state rd (next_pc state)) { pc = target })
    else stops (Alignment target)

-- the state after a guest call, with its answer in x10
abbrev pub answered : RvState → ℕ → RvState
answered state answer = advanced (with_register state 10 answer)
