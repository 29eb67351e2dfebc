-- What an instruction does, from its start state and the reply to its access, if it had one (The RISC-V Instruction Set Manual,
-- Volume I, "RV32I Base Integer Instruction Set" and "Zalrsc").
use Rattle.std.specs.Prelude.{ℕ, ◌+◌, ◌==◌, not, nat_lt, if◌then◌else◌, Bool, true, false, List, ℤ, bit_and, bit_or, bit_xor}
use Rattle.llsc_base.specs.Images.{Program}
use Rattle.llsc_base.specs.declared.access.Size.TheVariants.{B1, B2, B4}
use Rattle.llsc_base.specs.declared.outside.CallAsk.{CallAsk}
use Rattle.llsc_base.specs.Effects.{calls, completes}
use Rattle.llsc_base.specs.Words.{low32}
use Rattle.rv32_guest.specs.declared.instructions.RvInstr.{RvInstr}
use Rattle.rv32_guest.specs.declared.instructions.RvInstr.TheVariants.{Lui, Auipc, Jal, Jalr, Beq, Bne, Blt, Bge, Bltu, Bgeu, Lb, Lh, Lw, Lbu, Lhu, Sb, Sh, Sw, Addi, Slti, Sltiu, Xori, Ori, Andi, Slli, Srli, Srai, Add, Sub, Sll, Slt, Sltu, Xor, Srl, Sra, Or, And, Fence, LrW, ScW, Ecall}
use Rattle.rv32_guest.specs.State.{RvState, Effect, register, advanced, writes, jumps}
use Rattle.rv32_guest.specs.Computing.{word_of, moved, sum, difference, is_less_signed, as_number, shifted_left, shifted_right, shifted_signed, even}
use Rattle.rv32_guest.specs.Accesses.{loads, stores, reserves, stores_conditionally, place_of}

-- a branch that is taken is a jump that writes no register, and one that isn't does nothing
abbrev pub branches : RvState → Bool → ℤ → Effect
branches state taken distance = if taken then jumps state 0 (moved state.pc distance) else completes (advanced state)

-- a guest call has its number in x17, and x10 to x12 as its arguments
abbrev pub call_in : RvState → CallAsk
call_in state = record {
  imm = 0;
  number = register state 17;
  a = register state 10;
  b = register state 11;
  c = register state 12;
}

-- what an instruction does
abbrev pub acts : RvInstr → Program → List ℕ → RvState → Effect
acts (Lui rd imm) program replies state = writes state rd imm
acts (Auipc rd imm) program replies state = writes state rd (low32 (state.pc + imm))
acts (Jal rd imm) program replies state = jumps state rd (moved state.pc imm)
acts (Jalr rd rs1 imm) program replies state = jumps state rd (even (moved (register state rs1) imm))
acts (Beq rs1 rs2 imm) program replies state = branches state (register state rs1 == register state rs2) imm
acts (Bne rs1 rs2 imm) program replies state = branches state (not (register state rs1 == register state rs2)) imm
acts (Blt rs1 rs2 imm) program replies state = branches state (is_less_signed (register state rs1) (register state rs2)) imm
acts (Bge rs1 rs2 imm) program replies state = branches state (not (is_less_signed (register state rs1) (register state rs2))) imm
acts (Bltu rs1 rs2 imm) program replies state = branches state (nat_lt (register state rs1) (register state rs2)) imm
acts (Bgeu rs1 rs2 imm) program replies state = branches state (not (nat_lt (register state rs1) (register state rs2))) imm
acts (Lb rd rs1 imm) program replies state = loads program (place_of B1 (moved (register state rs1) imm)) true rd replies state
acts (Lh rd rs1 imm) program replies state = loads program (place_of B2 (moved (register state rs1) imm)) true rd replies state
acts (Lw rd rs1 imm) program replies state = loads program (place_of B4 (moved (register state rs1) imm)) false rd replies state
acts (Lbu rd rs1 imm) program replies state = loads program (place_of B1 (moved (register state rs1) imm)) false rd replies state
acts (Lhu rd rs1 imm) program replies state = loads program (place_of B2 (moved (register state rs1) imm)) false rd replies state
acts (Sb rs1 rs2 imm) program replies state = stores program (place_of B1 (moved (register state rs1) imm)) (register state rs2) replies state
acts (Sh rs1 rs2 imm) program replies state = stores program (place_of B2 (moved (register state rs1) imm)) (register state rs2) replies state
acts (Sw rs1 rs2 imm) program replies state = stores program (place_of B4 (moved (register state rs1) imm)) (register state rs2) replies state
acts (Addi rd rs1 imm) program replies state = writes state rd (sum (register state rs1) (word_of imm))
acts (Slti rd rs1 imm) program replies state = writes state rd (as_number (is_less_signed (register state rs1) (word_of imm)))
acts (Sltiu rd rs1 imm) program replies state = writes state rd (as_number (nat_lt (register state rs1) (word_of imm)))
acts (Xori rd rs1 imm) program replies state = writes state rd (bit_xor (register state rs1) (word_of imm))
acts (Ori rd rs1 imm) program replies state = writes state rd (bit_or (register state rs1) (word_of imm))
acts (Andi rd rs1 imm) program replies state = writes state rd (bit_and (register state rs1) (word_of imm))
acts (Slli rd rs1 amount) program replies state = writes state rd (shifted_left (register state rs1) amount)
acts (Srli rd rs1 amount) program replies state = writes state rd (shifted_right (register state rs1) amount)
acts (Srai rd rs1 amount) program replies state = writes state rd (shifted_signed (register state rs1) amount)
acts (Add rd rs1 rs2) program replies state = writes state rd (sum (register state rs1) (register state rs2))
acts (Sub rd rs1 rs2) program replies state = writes state rd (difference (register state rs1) (register state rs2))
acts (Sll rd rs1 rs2) program replies state = writes state rd (shifted_left (register state rs1) (register state rs2))
acts (Slt rd rs1 rs2) program replies state = writes state rd (as_number (is_less_signed (register state rs1) (register state rs2)))
acts (Sltu rd rs1 rs2) program replies state = writes state rd (as_number (nat_lt (register state rs1) (register state rs2)))
acts (Xor rd rs1 rs2) program replies state = writes state rd (bit_xor (register state rs1) (register state rs2))
acts (Srl rd rs1 rs2) program replies state = writes state rd (shifted_right (register state rs1) (register state rs2))
acts (Sra rd rs1 rs2) program replies state = writes state rd (shifted_signed (register state rs1) (register state rs2))
acts (Or rd rs1 rs2) program replies state = writes state rd (bit_or (register state rs1) (register state rs2))
acts (And rd rs1 rs2) program replies state = writes state rd (bit_and (register state rs1) (register state rs2))
acts Fence program replies state = completes (advanced state)
acts (LrW rd rs1) program replies state = reserves program (register state rs1) rd replies state
acts (ScW rd rs1 rs2) program replies state = stores_conditionally program (register state rs1) (register state rs2) rd replies state
acts Ecall program replies state = calls (call_in state)
