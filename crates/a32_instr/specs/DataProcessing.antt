-- Data-processing instructions (DDI 0406C A5.2, A8.4, and A8.8 for each operation).
use Rattle.std.specs.Prelude.{ℕ, ◌*◌, ◌%◌, ◌==◌, if◌then◌else◌, Bool, bit_and, bit_or, bit_xor}
use Rattle.a32_instr.specs.declared.conditions.Flags.{Flags}
use Rattle.a32_instr.specs.declared.instructions.AluOp.{AluOp}
use Rattle.a32_instr.specs.declared.instructions.AluOp.TheVariants.{And, Eor, Sub, Rsb, Add, Adc, Sbc, Rsc, Tst, Teq, Cmp, Cmn, Orr, Mov, Bic, Mvn}
use Rattle.a32_instr.specs.declared.instructions.Operand2.{Operand2}
use Rattle.a32_instr.specs.declared.instructions.Operand2.TheVariants.{Imm, ByNum, ByReg}
use Rattle.a32_instr.specs.Fields.{is_compare}
use Rattle.a32_instr.specs.State.{State, Effect, register, advanced, writes}
use Rattle.llsc_base.specs.Effects.{completes}
use Rattle.a32_instr.specs.declared.arithmetic.Sum.{Sum}
use Rattle.a32_instr.specs.declared.arithmetic.Shifted.{Shifted}
use Rattle.a32_instr.specs.declared.arithmetic.Computed.{Computed}
use Rattle.a32_instr.specs.Sum.{sum_of, complement}
use Rattle.a32_instr.specs.Shift.{top_bit, rotated_right, shifted, shifted_by_number}

-- The operand.

-- an immediate and the shifter's carry: one that isn't turned keeps the carry (DDI 0406C A5.2.4, ARMExpandImm_C)
abbrev pub immediate : ℕ → ℕ → Bool → Shifted
immediate turn imm8 carry = record {
  value = rotated_right imm8 (2 * turn);
  carry = if turn == 0 then carry else top_bit (rotated_right imm8 (2 * turn));
}

-- a register is shifted by the number in the word, or by the low byte of another register
abbrev pub operand_of : Operand2 → State → Shifted
operand_of (Imm turn imm8) state = immediate turn imm8 state.flags.c
operand_of (ByNum rm kind amount) state = shifted_by_number kind (register state rm) amount state.flags.c
operand_of (ByReg rm kind rs) state = shifted kind (register state rm) (register state rs % 256) state.flags.c

-- The operation.

-- a sum sets all four flags
abbrev pub summed : Sum → Computed
summed sum = record {
  value = sum.value;
  flags = record { n = top_bit sum.value; z = sum.value == 0; c = sum.carry; v = sum.overflow };
}

-- a logical operation sets the carry to the shifter's and keeps the overflow
abbrev pub logical : ℕ → Bool → Flags → Computed
logical value carry flags = record {
  value = value;
  flags = record { n = top_bit value; z = value == 0; c = carry; v = flags.v };
}

-- a flag as a number
abbrev pub one_if : Bool → ℕ
one_if flag = if flag then 1 else 0

-- an operation on the first operand and the second
abbrev pub computed : AluOp → ℕ → Shifted → Flags → Computed
computed And x y flags = logical (bit_and x y.value) y.carry flags
computed Eor x y flags = logical (bit_xor x y.value) y.carry flags
computed Sub x y flags = summed (sum_of x (complement y.value) 1)
computed Rsb x y flags = summed (sum_of (complement x) y.value 1)
computed Add x y flags = summed (sum_of x y.value 0)
computed Adc x y flags = summed (sum_of x y.value (one_if flags.c))
computed Sbc x y flags = summed (sum_of x (complement y.value) (one_if flags.c))
computed Rsc x y flags = summed (sum_of (complement x) y.value (one_if flags.c))
computed Tst x y flags = logical (bit_and x y.value) y.carry flags
computed Teq x y flags = logical (bit_xor x y.value) y.carry flags
computed Cmp x y flags = summed (sum_of x (complement y.value) 1)
computed Cmn x y flags = summed (sum_of x y.value 0)
computed Orr x y flags = logical (bit_or x y.value) y.carry flags
computed Mov x y flags = logical y.value y.carry flags
computed Bic x y flags = logical (bit_and x (complement y.value)) y.carry flags
computed Mvn x y flags = logical (complement y.value) y.carry flags

-- The instruction.

-- the state with the flags, where the instruction sets them
abbrev pub with_flags : Bool → Flags → State → State
with_flags sets flags state = record state { flags = if sets then flags else state.flags }

-- a compare only sets the flags, every other operation writes its destination too
abbrev pub alu_done : AluOp → Bool → ℕ → Computed → State → Effect
alu_done op sets rd result state =
    if is_compare op
    then completes (advanced (with_flags sets result.flags state))
    else writes (with_flags sets result.flags state) rd result.value

abbrev pub alu : AluOp → Bool → ℕ → ℕ → Operand2 → State → Effect
alu op sets rd rn operand state =
    alu_done op sets rd (computed op (register state rn) (operand_of operand state) state.flags) state
