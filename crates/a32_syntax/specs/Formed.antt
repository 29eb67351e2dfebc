-- What the fields of the table's instructions are like. Each word of 32 bits that means an instruction means such a one.
use Rattle.std.specs.Prelude.{◌≡◌, ℕ, ◌+◌, ◌^◌, ◌<◌, Bool, true, ℤ, pos, negsuc}
use Rattle.a32_instr.specs.declared.instructions.AluOp.{AluOp}
use Rattle.a32_instr.specs.declared.instructions.ShiftKind.TheVariants.{Lsl}
use Rattle.a32_instr.specs.declared.instructions.Operand2.{Operand2}
use Rattle.a32_instr.specs.declared.instructions.Operand2.TheVariants as operand
use Rattle.a32_instr.specs.declared.instructions.Offset.{Offset}
use Rattle.a32_instr.specs.declared.instructions.Offset.TheVariants as offset
use Rattle.a32_instr.specs.declared.instructions.Instr.{Instr}
use Rattle.a32_instr.specs.declared.instructions.Instr.TheVariants as instr
use Rattle.llsc_base.specs.declared.access.Size.{Size}
use Rattle.llsc_base.specs.declared.access.Size.TheVariants.{B8}
use Rattle.a32_instr.specs.Fields.{is_compare, is_move}

-- a register by its number, and a condition
abbrev pub IsRegister : ℕ → Type 0
IsRegister number = number < 16

abbrev pub IsCondition : ℕ → Type 0
IsCondition number = number < 15

abbrev pub AreRegisters2 : ℕ → ℕ → Type 0
AreRegisters2 x y = IsRegister x × IsRegister y

abbrev pub AreRegisters3 : ℕ → ℕ → ℕ → Type 0
AreRegisters3 x y z = IsRegister x × IsRegister y × IsRegister z

abbrev pub AreRegisters4 : ℕ → ℕ → ℕ → ℕ → Type 0
AreRegisters4 x y z w = IsRegister x × IsRegister y × IsRegister z × IsRegister w

-- a second operand
abbrev pub OperandFits : Operand2 → Type 0
OperandFits (operand.Imm turn imm8) = (turn < 16) × (imm8 < 256)
OperandFits (operand.ByNum rm kind amount) = IsRegister rm × (amount < 32)
OperandFits (operand.ByReg rm kind rs) = AreRegisters2 rm rs

-- a compare sets the flags and has no destination, a move has no first operand
abbrev pub OperationFits : AluOp → Bool → ℕ → ℕ → Type 0
OperationFits op s rd rn = (is_compare op ≡ true → (s ≡ true) × (rd ≡ 0)) × (is_move op ≡ true → rn ≡ 0)

-- an offset of a word or a byte, and of a halfword or a signed byte, whose register isn't shifted
abbrev pub WordOffsetFits : Offset → Type 0
WordOffsetFits (offset.Imm add imm) = imm < 4096
WordOffsetFits (offset.Shifted add rm kind amount) = IsRegister rm × (amount < 32)

abbrev pub HalfOffsetFits : Offset → Type 0
HalfOffsetFits (offset.Imm add imm) = imm < 256
HalfOffsetFits (offset.Shifted add rm kind amount) = IsRegister rm × (kind ≡ Lsl) × (amount ≡ 0)

-- a doubleword has a next register
abbrev pub PairFits : Size → ℕ → Type 0
PairFits B8 rt = rt + 1 < 16
PairFits _ rt = IsRegister rt

-- a branch's distance
abbrev pub DistanceFits : ℤ → Type 0
DistanceFits (pos words) = words < 2 ^ 23
DistanceFits (negsuc words) = words < 2 ^ 23

-- an instruction's fields
unfoldable pub IsFormed : Instr → Type 0
IsFormed (instr.Alu cond op s rd rn operand) = IsCondition cond × AreRegisters2 rd rn × OperationFits op s rd rn × OperandFits operand
IsFormed (instr.Movw cond rd imm) = IsCondition cond × IsRegister rd × (imm < 2 ^ 16)
IsFormed (instr.Movt cond rd imm) = IsCondition cond × IsRegister rd × (imm < 2 ^ 16)
IsFormed (instr.Nop cond) = IsCondition cond
IsFormed (instr.Yield cond) = IsCondition cond
IsFormed (instr.Mul cond s rd rn rm) = IsCondition cond × AreRegisters3 rd rn rm
IsFormed (instr.Mla cond s rd rn rm ra) = IsCondition cond × AreRegisters4 rd rn rm ra
IsFormed (instr.Mls cond rd rn rm ra) = IsCondition cond × AreRegisters4 rd rn rm ra
IsFormed (instr.Long cond kind s lo hi rn rm) = IsCondition cond × AreRegisters4 lo hi rn rm
IsFormed (instr.Clz cond rd rm) = IsCondition cond × AreRegisters2 rd rm
IsFormed (instr.Rev cond rd rm) = IsCondition cond × AreRegisters2 rd rm
IsFormed (instr.Extend cond unsigned half rd rm turn) = IsCondition cond × AreRegisters2 rd rm × (turn < 4)
IsFormed (instr.Word cond load byte index rn rt offset) = IsCondition cond × AreRegisters2 rn rt × WordOffsetFits offset
IsFormed (instr.Half cond kind index rn rt offset) = IsCondition cond × AreRegisters2 rn rt × HalfOffsetFits offset
IsFormed (instr.Block cond load before up wback rn list) = IsCondition cond × IsRegister rn × (0 < list) × (list < 2 ^ 16)
IsFormed (instr.Branch cond link words) = IsCondition cond × DistanceFits words
IsFormed (instr.BranchReg cond link rm) = IsCondition cond × IsRegister rm
IsFormed (instr.Svc cond imm) = IsCondition cond × (imm < 2 ^ 24)
IsFormed (instr.LoadEx cond size rn rt) = IsCondition cond × IsRegister rn × PairFits size rt
IsFormed (instr.StoreEx cond size rn rd rt) = IsCondition cond × AreRegisters2 rn rd × PairFits size rt
IsFormed instr.Clrex = Unit {0}
IsFormed (instr.Barrier kind option) = option < 16
