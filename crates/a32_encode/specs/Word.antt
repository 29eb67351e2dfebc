-- The one word that can be an instruction's: the sum of its fixed bits and its fields, each at its place (DDI 0406C A5.1 to
-- A5.7). It computes the encoding in `Encoding.antt`, and is no part of what is promised: `src/laws.rt` says by the table what
-- an encoding is.
use Rattle.std.specs.Prelude.{ℕ, ◌+◌, ◌*◌, ◌/◌, ◌%◌, ◌^◌, ℤ, pos, unsigned_abs}
use Rattle.std.specs.Int.{int_rem_euclid}
use Rattle.a32_instr.specs.declared.instructions.AluOp.{AluOp}
use Rattle.a32_instr.specs.declared.instructions.AluOp.TheVariants.{And, Eor, Sub, Rsb, Add, Adc, Sbc, Rsc, Tst, Teq, Cmp, Cmn, Orr, Mov, Bic, Mvn}
use Rattle.a32_instr.specs.declared.instructions.ShiftKind.{ShiftKind}
use Rattle.a32_instr.specs.declared.instructions.ShiftKind.TheVariants.{Lsl, Lsr, Asr, Ror}
use Rattle.a32_instr.specs.declared.instructions.LongKind.{LongKind}
use Rattle.a32_instr.specs.declared.instructions.LongKind.TheVariants.{Umull, Umlal, Smull, Smlal}
use Rattle.a32_instr.specs.declared.instructions.Operand2.{Operand2}
use Rattle.a32_instr.specs.declared.instructions.Operand2.TheVariants as operand
use Rattle.a32_instr.specs.declared.instructions.Offset.{Offset}
use Rattle.a32_instr.specs.declared.instructions.Offset.TheVariants as offset
use Rattle.a32_instr.specs.declared.instructions.Index.{Index}
use Rattle.a32_instr.specs.declared.instructions.Index.TheVariants.{Plain, Pre, Post}
use Rattle.a32_instr.specs.declared.instructions.HalfKind.{HalfKind}
use Rattle.a32_instr.specs.declared.instructions.HalfKind.TheVariants.{Strh, Ldrh, Ldrsb, Ldrsh}
use Rattle.a32_instr.specs.declared.instructions.BarrierKind.{BarrierKind}
use Rattle.a32_instr.specs.declared.instructions.BarrierKind.TheVariants.{Dsb, Dmb, Isb}
use Rattle.a32_instr.specs.declared.instructions.Instr.{Instr}
use Rattle.a32_instr.specs.declared.instructions.Instr.TheVariants.{Alu, Movw, Movt, Nop, Yield, Mul, Mla, Mls, Long, Clz, Extend, Rev, Word, Half, Block, Branch, BranchReg, Svc, LoadEx, StoreEx, Clrex, Barrier}
use Rattle.a32_instr.specs.DataProcessing.{one_if}
use Rattle.llsc_base.specs.declared.access.Size.{Size}
use Rattle.llsc_base.specs.declared.access.Size.TheVariants.{B1, B2, B4, B8}

-- the opcode of a data-processing operation (DDI 0406C table A5-3)
abbrev pub opcode : AluOp → ℕ
opcode And = 0
opcode Eor = 1
opcode Sub = 2
opcode Rsb = 3
opcode Add = 4
opcode Adc = 5
opcode Sbc = 6
opcode Rsc = 7
opcode Tst = 8
opcode Teq = 9
opcode Cmp = 10
opcode Cmn = 11
opcode Orr = 12
opcode Mov = 13
opcode Bic = 14
opcode Mvn = 15

-- the encoding of a kind of shift (DDI 0406C A8.4.3)
abbrev pub shift_bits : ShiftKind → ℕ
shift_bits Lsl = 0
shift_bits Lsr = 1
shift_bits Asr = 2
shift_bits Ror = 3

-- bits 22:21 of a long multiplication (DDI 0406C A5.2.5)
abbrev pub long_bits : LongKind → ℕ
long_bits Umull = 0
long_bits Umlal = 1
long_bits Smull = 2
long_bits Smlal = 3

-- bits 22:21 of an exclusive (DDI 0406C A5.2.10)
abbrev pub size_bits : Size → ℕ
size_bits B4 = 0
size_bits B8 = 1
size_bits B1 = 2
size_bits B2 = 3

-- bits 5:4 of a barrier (DDI 0406C A5.7.1)
abbrev pub barrier_bits : BarrierKind → ℕ
barrier_bits Dsb = 0
barrier_bits Dmb = 1
barrier_bits Isb = 2

-- bits 24 and 21 of a load or a store (DDI 0406C A8.5)
abbrev pub index_bits : Index → ℕ
index_bits Plain = 2 ^ 24
index_bits Pre = 2 ^ 24 + 2 ^ 21
index_bits Post = 0

-- bits 20 and 7:4 of a halfword or a signed byte (DDI 0406C A5.2.8)
abbrev pub half_bits : HalfKind → ℕ
half_bits Strh = 0xB0
half_bits Ldrh = 0x1000B0
half_bits Ldrsb = 0x1000D0
half_bits Ldrsh = 0x1000F0

-- bit 25 and bits 11:0 of data processing
abbrev pub operand_bits : Operand2 → ℕ
operand_bits (operand.Imm turn imm) = 2 ^ 25 + turn * 2 ^ 8 + imm
operand_bits (operand.ByNum rm kind amount) = amount * 2 ^ 7 + shift_bits kind * 2 ^ 5 + rm
operand_bits (operand.ByReg rm kind rs) = rs * 2 ^ 8 + shift_bits kind * 2 ^ 5 + 2 ^ 4 + rm

-- bits 25, 23 and 11:0 of a load or a store of a word or a byte
abbrev pub word_offset : Offset → ℕ
word_offset (offset.Imm add imm) = one_if add * 2 ^ 23 + imm
word_offset (offset.Shifted add rm kind amount) = 2 ^ 25 + one_if add * 2 ^ 23 + amount * 2 ^ 7 + shift_bits kind * 2 ^ 5 + rm

-- bits 23, 22, 11:8 and 3:0 of a halfword or a signed byte
abbrev pub half_offset : Offset → ℕ
half_offset (offset.Imm add imm) = one_if add * 2 ^ 23 + 2 ^ 22 + imm / 2 ^ 4 * 2 ^ 8 + imm % 2 ^ 4
half_offset (offset.Shifted add rm kind amount) = one_if add * 2 ^ 23 + rm

-- a branch's distance in 24 bits
abbrev pub branch_bits : ℤ → ℕ
branch_bits words = unsigned_abs (int_rem_euclid words (pos (2 ^ 24)))

abbrev pub word_of : Instr → ℕ
word_of (Alu cond op s rd rn operand) = cond * 2 ^ 28 + opcode op * 2 ^ 21 + one_if s * 2 ^ 20 + rn * 2 ^ 16 + rd * 2 ^ 12 + operand_bits operand
word_of (Movw cond rd imm) = cond * 2 ^ 28 + 0x3000000 + imm / 2 ^ 12 * 2 ^ 16 + rd * 2 ^ 12 + imm % 2 ^ 12
word_of (Movt cond rd imm) = cond * 2 ^ 28 + 0x3400000 + imm / 2 ^ 12 * 2 ^ 16 + rd * 2 ^ 12 + imm % 2 ^ 12
word_of (Nop cond) = cond * 2 ^ 28 + 0x320F000
word_of (Yield cond) = cond * 2 ^ 28 + 0x320F001
word_of (Mul cond s rd rn rm) = cond * 2 ^ 28 + 0x90 + one_if s * 2 ^ 20 + rd * 2 ^ 16 + rm * 2 ^ 8 + rn
word_of (Mla cond s rd rn rm ra) = cond * 2 ^ 28 + 0x200090 + one_if s * 2 ^ 20 + rd * 2 ^ 16 + ra * 2 ^ 12 + rm * 2 ^ 8 + rn
word_of (Mls cond rd rn rm ra) = cond * 2 ^ 28 + 0x600090 + rd * 2 ^ 16 + ra * 2 ^ 12 + rm * 2 ^ 8 + rn
word_of (Long cond kind s lo hi rn rm) = cond * 2 ^ 28 + 0x800090 + long_bits kind * 2 ^ 21 + one_if s * 2 ^ 20 + hi * 2 ^ 16 + lo * 2 ^ 12 + rm * 2 ^ 8 + rn
word_of (Clz cond rd rm) = cond * 2 ^ 28 + 0x16F0F10 + rd * 2 ^ 12 + rm
word_of (Extend cond unsigned half rd rm turn) = cond * 2 ^ 28 + 0x6AF0070 + one_if unsigned * 2 ^ 22 + one_if half * 2 ^ 20 + rd * 2 ^ 12 + turn * 2 ^ 10 + rm
word_of (Rev cond rd rm) = cond * 2 ^ 28 + 0x6BF0F30 + rd * 2 ^ 12 + rm
word_of (Word cond load byte index rn rt offset) = cond * 2 ^ 28 + 0x4000000 + index_bits index + one_if byte * 2 ^ 22 + one_if load * 2 ^ 20 + rn * 2 ^ 16 + rt * 2 ^ 12 + word_offset offset
word_of (Half cond kind index rn rt offset) = cond * 2 ^ 28 + index_bits index + half_bits kind + rn * 2 ^ 16 + rt * 2 ^ 12 + half_offset offset
word_of (Block cond load before up wback rn list) = cond * 2 ^ 28 + 0x8000000 + one_if before * 2 ^ 24 + one_if up * 2 ^ 23 + one_if wback * 2 ^ 21 + one_if load * 2 ^ 20 + rn * 2 ^ 16 + list
word_of (Branch cond link words) = cond * 2 ^ 28 + 0xA000000 + one_if link * 2 ^ 24 + branch_bits words
word_of (BranchReg cond link rm) = cond * 2 ^ 28 + 0x12FFF10 + one_if link * 2 ^ 5 + rm
word_of (Svc cond imm) = cond * 2 ^ 28 + 0xF000000 + imm
word_of (LoadEx cond size rn rt) = cond * 2 ^ 28 + 0x1900F9F + size_bits size * 2 ^ 21 + rn * 2 ^ 16 + rt * 2 ^ 12
word_of (StoreEx cond size rn rd rt) = cond * 2 ^ 28 + 0x1800F90 + size_bits size * 2 ^ 21 + rn * 2 ^ 16 + rd * 2 ^ 12 + rt
word_of Clrex = 0xF57FF01F
word_of (Barrier kind option) = 0xF57FF040 + barrier_bits kind * 2 ^ 4 + option
