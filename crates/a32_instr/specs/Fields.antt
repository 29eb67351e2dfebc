-- What the fields of the rows mean, and where they make a word unpredictable (DDI 0406C A5, A8).
use Rattle.std.specs.Prelude.{ℕ, ◌+◌, ◌/◌, ◌%◌, ◌^◌, ◌==◌, ◌&&◌, ◌||◌, not, nat_lt, if◌then◌else◌, Bool, true, false, ℤ, pos, ◌-ℤ◌}
use Rattle.a32_instr.specs.declared.instructions.AluOp.{AluOp}
use Rattle.a32_instr.specs.declared.instructions.AluOp.TheVariants.{And, Eor, Sub, Rsb, Add, Adc, Sbc, Rsc, Tst, Teq, Cmp, Cmn, Orr, Mov, Bic, Mvn}
use Rattle.a32_instr.specs.declared.instructions.ShiftKind.{ShiftKind}
use Rattle.a32_instr.specs.declared.instructions.ShiftKind.TheVariants.{Lsl, Lsr, Asr, Ror}
use Rattle.a32_instr.specs.declared.instructions.LongKind.{LongKind}
use Rattle.a32_instr.specs.declared.instructions.LongKind.TheVariants.{Umull, Umlal, Smull, Smlal}
use Rattle.a32_instr.specs.declared.instructions.Index.{Index}
use Rattle.a32_instr.specs.declared.instructions.Index.TheVariants.{Plain, Pre, Post}
use Rattle.a32_instr.specs.declared.instructions.HalfKind.{HalfKind}
use Rattle.a32_instr.specs.declared.instructions.HalfKind.TheVariants.{Strh, Ldrh, Ldrsb, Ldrsh}
use Rattle.a32_instr.specs.declared.instructions.BarrierKind.{BarrierKind}
use Rattle.a32_instr.specs.declared.instructions.BarrierKind.TheVariants.{Dsb, Dmb, Isb}
use Rattle.llsc_base.specs.declared.access.Size.{Size}
use Rattle.llsc_base.specs.declared.access.Size.TheVariants.{B1, B2, B4, B8}

-- the data-processing operations by their opcodes (DDI 0406C table A5-3)
unfoldable pub alu_op : ℕ → AluOp
alu_op opcode =
    if opcode == 0 then And else
    if opcode == 1 then Eor else
    if opcode == 2 then Sub else
    if opcode == 3 then Rsb else
    if opcode == 4 then Add else
    if opcode == 5 then Adc else
    if opcode == 6 then Sbc else
    if opcode == 7 then Rsc else
    if opcode == 8 then Tst else
    if opcode == 9 then Teq else
    if opcode == 10 then Cmp else
    if opcode == 11 then Cmn else
    if opcode == 12 then Orr else
    if opcode == 13 then Mov else
    if opcode == 14 then Bic else
    Mvn

-- the kinds of shift by their encodings (DDI 0406C A8.4.3, DecodeRegShift)
unfoldable pub shift_kind : ℕ → ShiftKind
shift_kind kind =
    if kind == 0 then Lsl else
    if kind == 1 then Lsr else
    if kind == 2 then Asr else
    Ror

-- the long multiplications by bits 22:21 (DDI 0406C A5.2.5)
unfoldable pub long_kind : ℕ → LongKind
long_kind kind =
    if kind == 0 then Umull else
    if kind == 1 then Umlal else
    if kind == 2 then Smull else
    Smlal

-- an operation that only sets the flags
abbrev pub is_compare : AluOp → Bool
is_compare And = false
is_compare Eor = false
is_compare Sub = false
is_compare Rsb = false
is_compare Add = false
is_compare Adc = false
is_compare Sbc = false
is_compare Rsc = false
is_compare Tst = true
is_compare Teq = true
is_compare Cmp = true
is_compare Cmn = true
is_compare Orr = false
is_compare Mov = false
is_compare Bic = false
is_compare Mvn = false

-- an operation with one operand
abbrev pub is_move : AluOp → Bool
is_move And = false
is_move Eor = false
is_move Sub = false
is_move Rsb = false
is_move Add = false
is_move Adc = false
is_move Sbc = false
is_move Rsc = false
is_move Tst = false
is_move Teq = false
is_move Cmp = false
is_move Cmn = false
is_move Orr = false
is_move Mov = true
is_move Bic = false
is_move Mvn = true

-- a compare sets the flags and names no destination; a move names no first operand
unfoldable pub alu_fits : AluOp → ℕ → ℕ → ℕ → Bool
alu_fits op sets rd rn =
    (not (is_compare op) || ((sets == 1) && (rd == 0)))
    && (not (is_move op) || (rn == 0))

-- an instruction that writes the PC is to set the flags: in the manual that is the return from an exception (SUBS PC, LR
-- and related instructions), which is unpredictable in User mode
unfoldable pub alu_unpredictable : AluOp → ℕ → ℕ → Bool
alu_unpredictable op sets rd = (sets == 1) && not (is_compare op) && (rd == 15)

-- one of these registers is the PC
unfoldable pub one_of_2_is_pc : ℕ → ℕ → Bool
one_of_2_is_pc x y = (x == 15) || (y == 15)

unfoldable pub one_of_3_is_pc : ℕ → ℕ → ℕ → Bool
one_of_3_is_pc x y z = (x == 15) || (y == 15) || (z == 15)

unfoldable pub one_of_4_is_pc : ℕ → ℕ → ℕ → ℕ → Bool
one_of_4_is_pc x y z w = (x == 15) || (y == 15) || (z == 15) || (w == 15)

-- the sizes of exclusives by bits 22:21 (DDI 0406C A5.2.10)
unfoldable pub exclusive_size : ℕ → Size
exclusive_size size =
    if size == 0 then B4 else
    if size == 1 then B8 else
    if size == 2 then B1 else
    B2

-- a doubleword's first register has an odd number, or is lr, so that the second would be the PC
unfoldable pub no_pair : ℕ → ℕ → Bool
no_pair size rt = (size == 1) && ((rt % 2 == 1) || (rt == 14))

-- the status register is also the address's, or one of the value's
unfoldable pub status_clashes : ℕ → ℕ → ℕ → ℕ → Bool
status_clashes size rn rd rt = (rd == rn) || (rd == rt) || ((size == 1) && (rd == rt + 1))

-- the index forms by bits 24 and 21 (DDI 0406C A8.5); a post index with bit 21 set is another instruction
unfoldable pub index_fits : ℕ → ℕ → Bool
index_fits p w = not ((p == 0) && (w == 1))

unfoldable pub index_of : ℕ → ℕ → Index
index_of p w = if p == 0 then Post else if w == 1 then Pre else Plain

-- a base is written back that is the PC or the other register; or a byte is loaded into the PC, or stored from it
unfoldable pub word_unpredictable : ℕ → ℕ → ℕ → ℕ → ℕ → Bool
word_unpredictable p w b rn rt =
    (((p == 0) || (w == 1)) && ((rn == 15) || (rn == rt))) || ((b == 1) && (rt == 15))

-- a halfword or a signed byte by bits 20, 6 and 5 (DDI 0406C A5.2.8): a byte or a signed halfword isn't stored so
unfoldable pub half_fits : ℕ → ℕ → ℕ → Bool
half_fits l x y = ((x == 0) && (y == 1)) || ((x == 1) && (l == 1))

unfoldable pub half_kind : ℕ → ℕ → ℕ → HalfKind
half_kind l x y =
    if x == 0 then (if l == 0 then Strh else Ldrh) else
    if y == 0 then Ldrsb else
    Ldrsh

-- the other register is the PC; or a base is written back that is the PC or the other register
unfoldable pub half_unpredictable : ℕ → ℕ → ℕ → ℕ → Bool
half_unpredictable p w rn rt = (rt == 15) || (((p == 0) || (w == 1)) && ((rn == 15) || (rn == rt)))

-- The base is the PC, or the list is empty; or a base is written back that is also loaded, or stored without being the
-- lowest register of the list: there the manual leaves the stored word unknown.
unfoldable pub block_unpredictable : ℕ → ℕ → ℕ → ℕ → Bool
block_unpredictable w l rn list =
    (rn == 15) || (list == 0)
    || ((w == 1) && (list / 2 ^ rn % 2 == 1) && ((l == 1) || not (list % 2 ^ rn == 0)))

-- the barriers by bits 5:4 (DDI 0406C A5.7.1)
unfoldable pub barrier_kind : ℕ → BarrierKind
barrier_kind kind =
    if kind == 0 then Dsb else
    if kind == 1 then Dmb else
    Isb

-- a number of 24 bits, read as signed
unfoldable pub signed24 : ℕ → ℤ
signed24 field = if nat_lt field (2 ^ 23) then pos field else pos field -ℤ pos (2 ^ 24)

abbrev pub always : (ℕ → ℕ) → Bool
always f = true

abbrev pub never : (ℕ → ℕ) → Bool
never f = false
