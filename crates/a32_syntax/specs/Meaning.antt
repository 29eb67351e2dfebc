-- What an instruction's text means: the instruction, or the first fault of its operands.
use Rattle.std.specs.Prelude.{ℕ, ◌+◌, ◌-◌, ◌*◌, ◌/◌, ◌%◌, ◌^◌, ◌==◌, ◌&&◌, ◌||◌, nat_le, nat_lt, if◌then◌else◌, Bool, true, List, [], ◌∷◌, Option, Some, None, Result, Ok, Err, pos, ◌-ℤ◌}
use Rattle.std.specs.List.{find}
use Rattle.a32_instr.specs.declared.instructions.AluOp.{AluOp}
use Rattle.a32_instr.specs.declared.instructions.ShiftKind.{ShiftKind}
use Rattle.a32_instr.specs.declared.instructions.ShiftKind.TheVariants.{Lsl, Lsr, Asr, Ror}
use Rattle.a32_instr.specs.declared.instructions.Operand2.{Operand2}
use Rattle.a32_instr.specs.declared.instructions.Operand2.TheVariants as operand
use Rattle.a32_instr.specs.declared.instructions.Offset.{Offset}
use Rattle.a32_instr.specs.declared.instructions.Offset.TheVariants as offset
use Rattle.a32_instr.specs.declared.instructions.Index.{Index}
use Rattle.a32_instr.specs.declared.instructions.Index.TheVariants.{Plain, Pre, Post}
use Rattle.a32_instr.specs.declared.instructions.HalfKind.{HalfKind}
use Rattle.a32_instr.specs.declared.instructions.BarrierKind.{BarrierKind}
use Rattle.a32_instr.specs.declared.instructions.Instr.{Instr}
use Rattle.a32_instr.specs.declared.instructions.Instr.TheVariants as instr
use Rattle.llsc_base.specs.declared.access.Size.{Size}
use Rattle.llsc_base.specs.declared.access.Size.TheVariants.{B8}
use Rattle.a32_instr.specs.Fields.{is_compare, is_move, shift_kind}
use Rattle.a32_instr.specs.Shift.{rotated_right}
use Rattle.a32_forms.specs.Text.{Part}
use Rattle.a32_forms.specs.Numbers.{too_great}
use Rattle.a32_forms.specs.Forms.{Chosen, chosen, number_at}
use Rattle.a32_syntax.specs.declared.kinds.AsmKind.{AsmKind}
use Rattle.a32_syntax.specs.declared.kinds.AsmKind.TheVariants as kind
pub use Rattle.a32_syntax.specs.declared.accesses.Indexed.{Indexed}
use Rattle.a32_syntax.specs.declared.operations.Operation.{Operation}
use Rattle.a32_syntax.specs.declared.operations.Operation.TheVariants.{Alu, Movw, Movt, Nop, Yield, Mul, Mla, Mls, Long, Clz, Rev, Extend, Word, Half, Block, Branch, BranchReg, Svc, LoadEx, StoreEx, Clrex, Barrier}
use Rattle.a32_syntax.specs.declared.operations.Mnemonic.{Mnemonic}
use Rattle.a32_syntax.specs.Operands.{operands_of, as_number, as_turned_number, as_register, as_shifted_by_number, as_turned_through_carry, at_base_alone, moved_by_number, moved_by_register, moved_by_shifted, moved_by_turned, behind_by_number, behind_by_register, behind_by_shifted, half_behind_by_number}

-- Where an instruction stands, and the addresses of the labels.
pub record Site : Type 0 where
  pub here : ℕ
  pub labels : List ℕ → Option ℕ

-- a number that is at most so much
abbrev pub within : ℕ → ℕ → Instr → Result Instr AsmKind
within most number instr = if nat_le number most then Ok instr else Err kind.Range

-- The second operand of data processing.

-- the turns of an immediate: it is turned right by twice as many bits
abbrev pub turns : List ℕ
turns = 0 ∷ 1 ∷ 2 ∷ 3 ∷ 4 ∷ 5 ∷ 6 ∷ 7 ∷ 8 ∷ 9 ∷ 10 ∷ 11 ∷ 12 ∷ 13 ∷ 14 ∷ 15 ∷ []

-- a number turned back by a turn: left by twice as many bits
unfoldable pub turned_back : ℕ → ℕ → ℕ
turned_back number turn = rotated_right number (32 - 2 * turn)

-- the least turn by which eight bits become the number
abbrev pub least_turn : ℕ → Option ℕ
least_turn number = find (λ turn. nat_lt (turned_back number turn) 256) turns

abbrev pub turned_number : ℕ → Option ℕ → Result Operand2 AsmKind
turned_number number (Some turn) = Ok (operand.Imm turn (turned_back number turn))
turned_number number None = Err kind.Range

-- a number by the least turn that gives it
unfoldable pub least_immediate : ℕ → Result Operand2 AsmKind
least_immediate number = if nat_lt number too_great then turned_number number (least_turn number) else Err kind.Range

-- eight bits and by how many bits they are turned, which is an even number
unfoldable pub number_and_turn : ℕ → ℕ → Result Operand2 AsmKind
number_and_turn imm8 bits =
    if bits % 2 == 1 then Err kind.Operand else
    if nat_le imm8 255 && nat_le bits 30 then Ok (operand.Imm (bits / 2) imm8) else
    Err kind.Range

-- the most bits by which a kind of shift shifts
abbrev pub most_bits : ShiftKind → ℕ
most_bits Lsl = 31
most_bits Lsr = 32
most_bits Asr = 32
most_bits Ror = 31

-- the field of a shift's amount: at LSR and ASR 0 stands for 32 (DDI 0406C A8.4.3)
unfoldable pub amount_of : ShiftKind → ℕ → Result ℕ AsmKind
amount_of shift bits =
    if bits == 0 then Err kind.Operand else
    if nat_le bits (most_bits shift) then Ok (bits % 32) else
    Err kind.Range

abbrev pub by_amount : ℕ → ShiftKind → Result ℕ AsmKind → Result Operand2 AsmKind
by_amount rm shift (Ok amount) = Ok (operand.ByNum rm shift amount)
by_amount rm shift (Err fault) = Err fault

-- the second operand by its form, whose numbers begin at a place
unfoldable pub second_operand : Chosen → ℕ → Result Operand2 AsmKind
second_operand found at =
    if found.form == as_number then least_immediate (number_at found at) else
    if found.form == as_turned_number then number_and_turn (number_at found at) (number_at found (at + 1)) else
    if found.form == as_register then Ok (operand.ByNum (number_at found at) Lsl 0) else
    if found.form == as_shifted_by_number then
    by_amount (number_at found at) (shift_kind (number_at found (at + 1)))
    (amount_of (shift_kind (number_at found (at + 1))) (number_at found (at + 2))) else
    if found.form == as_turned_through_carry then Ok (operand.ByNum (number_at found at) Ror 0) else
    Ok (operand.ByReg (number_at found at) (shift_kind (number_at found (at + 1))) (number_at found (at + 2)))

abbrev pub alu_with : ℕ → AluOp → Bool → ℕ → ℕ → Result Operand2 AsmKind → Result Instr AsmKind
alu_with cond op s rd rn (Ok operand) = Ok (instr.Alu cond op s rd rn operand)
alu_with cond op s rd rn (Err fault) = Err fault

-- a compare has no destination and always sets the flags, a move has no first operand
abbrev pub alu : ℕ → AluOp → Bool → Chosen → Result Instr AsmKind
alu cond op s found =
    if is_compare op then alu_with cond op true 0 (number_at found 0) (second_operand found 1) else
    if is_move op then alu_with cond op s (number_at found 0) 0 (second_operand found 1) else
    alu_with cond op s (number_at found 0) (number_at found 1) (second_operand found 2)

-- Labels.

abbrev pub with_address : (ℕ → Result Instr AsmKind) → Option ℕ → Result Instr AsmKind
with_address further None = Err kind.Label
with_address further (Some address) = further address

-- `lo` of a label is its lower half, `hi` its upper half
abbrev pub movw : ℕ → (List ℕ → Option ℕ) → Chosen → Result Instr AsmKind
movw cond labels found =
    if found.form == 0 then within 65535 (number_at found 1) (instr.Movw cond (number_at found 0) (number_at found 1)) else
    with_address (λ address. Ok (instr.Movw cond (number_at found 0) (address % 2 ^ 16))) (labels found.fields.name)

abbrev pub movt : ℕ → (List ℕ → Option ℕ) → Chosen → Result Instr AsmKind
movt cond labels found =
    if found.form == 0 then within 65535 (number_at found 1) (instr.Movt cond (number_at found 0) (number_at found 1)) else
    with_address (λ address. Ok (instr.Movt cond (number_at found 0) (address / 2 ^ 16 % 2 ^ 16))) (labels found.fields.name)

-- how many words a target lies behind the address of the instruction plus 8, modulo 2 to the 30
abbrev pub words_between : ℕ → ℕ → ℕ
words_between here target = (target + (2 ^ 32 - (here + 8) % 2 ^ 32)) % 2 ^ 32 / 4

-- a branch reaches 2 to the 23 words back, and one less ahead (DDI 0406C A8.8.18)
abbrev pub branch_by : ℕ → Bool → ℕ → Result Instr AsmKind
branch_by cond link words =
    if nat_lt words (2 ^ 23) then Ok (instr.Branch cond link (pos words)) else
    if nat_le (2 ^ 30 - 2 ^ 23) words then Ok (instr.Branch cond link (pos words -ℤ pos (2 ^ 30))) else
    Err kind.Range

-- a branch to an address, which is a multiple of 4
unfoldable pub branch_to : ℕ → Bool → ℕ → ℕ → Result Instr AsmKind
branch_to cond link here target =
    if nat_lt target too_great && (target % 4 == 0) then branch_by cond link (words_between here target) else Err kind.Range

abbrev pub branch : ℕ → Bool → Site → Chosen → Result Instr AsmKind
branch cond link site found =
    if found.form == 0 then branch_to cond link site.here (number_at found 0) else
    with_address (λ address. branch_to cond link site.here address) (site.labels found.fields.name)

-- Extends, which turn a register right by 0, 8, 16 or 24 bits.
abbrev pub extend : ℕ → Bool → Bool → Chosen → Result Instr AsmKind
extend cond unsigned half found =
    if found.form == 0 then Ok (instr.Extend cond unsigned half (number_at found 0) (number_at found 1) 0) else
    if (number_at found 2 == 8) || (number_at found 2 == 16) || (number_at found 2 == 24)
    then Ok (instr.Extend cond unsigned half (number_at found 0) (number_at found 1) (number_at found 2 / 8))
    else Err kind.Operand

-- Loads and stores.

-- the offset is added, but for one with `-`
abbrev pub is_added : ℕ → Bool
is_added minus = minus == 0

abbrev pub plain_or_pre : ℕ → Index
plain_or_pre exclamation = if exclamation == 0 then Plain else Pre

-- an offset that is a number of at most so many bytes
abbrev pub offset_number : ℕ → ℕ → ℕ → Result Offset AsmKind
offset_number most minus bytes = if nat_le bytes most then Ok (offset.Imm (is_added minus) bytes) else Err kind.Range

abbrev pub offset_shifted : ℕ → ℕ → ShiftKind → Result ℕ AsmKind → Result Offset AsmKind
offset_shifted minus rm shift (Ok amount) = Ok (offset.Shifted (is_added minus) rm shift amount)
offset_shifted minus rm shift (Err fault) = Err fault

-- an access's index and its offset
abbrev pub indexed : Index → Result Offset AsmKind → Indexed
indexed index offset = record { index = index; offset = offset }

-- the base alone: 0 is added
abbrev pub at_base : Indexed
at_base = indexed Plain (Ok (offset.Imm true 0))

abbrev pub shifted_offset : Chosen → Result Offset AsmKind
shifted_offset found =
    offset_shifted (number_at found 2) (number_at found 3) (shift_kind (number_at found 4))
    (amount_of (shift_kind (number_at found 4)) (number_at found 5))

unfoldable pub word_indexed : Chosen → Indexed
word_indexed found =
    if found.form == at_base_alone then at_base else
    if found.form == moved_by_number then indexed (plain_or_pre (number_at found 4)) (offset_number 4095 (number_at found 2) (number_at found 3)) else
    if found.form == moved_by_register then indexed (plain_or_pre (number_at found 4)) (Ok (offset.Shifted (is_added (number_at found 2)) (number_at found 3) Lsl 0)) else
    if found.form == moved_by_shifted then indexed (plain_or_pre (number_at found 6)) (shifted_offset found) else
    if found.form == moved_by_turned then indexed (plain_or_pre (number_at found 4)) (Ok (offset.Shifted (is_added (number_at found 2)) (number_at found 3) Ror 0)) else
    if found.form == behind_by_number then indexed Post (offset_number 4095 (number_at found 2) (number_at found 3)) else
    if found.form == behind_by_register then indexed Post (Ok (offset.Shifted (is_added (number_at found 2)) (number_at found 3) Lsl 0)) else
    if found.form == behind_by_shifted then indexed Post (shifted_offset found) else
    indexed Post (Ok (offset.Shifted (is_added (number_at found 2)) (number_at found 3) Ror 0))

unfoldable pub half_indexed : Chosen → Indexed
half_indexed found =
    if found.form == at_base_alone then at_base else
    if found.form == moved_by_number then indexed (plain_or_pre (number_at found 4)) (offset_number 255 (number_at found 2) (number_at found 3)) else
    if found.form == moved_by_register then indexed (plain_or_pre (number_at found 4)) (Ok (offset.Shifted (is_added (number_at found 2)) (number_at found 3) Lsl 0)) else
    if found.form == half_behind_by_number then indexed Post (offset_number 255 (number_at found 2) (number_at found 3)) else
    indexed Post (Ok (offset.Shifted (is_added (number_at found 2)) (number_at found 3) Lsl 0))

abbrev pub word_with : ℕ → Bool → Bool → ℕ → ℕ → Index → Result Offset AsmKind → Result Instr AsmKind
word_with cond load byte rt rn index (Ok offset) = Ok (instr.Word cond load byte index rn rt offset)
word_with cond load byte rt rn index (Err fault) = Err fault

abbrev pub word : ℕ → Bool → Bool → Chosen → Result Instr AsmKind
word cond load byte found =
    word_with cond load byte (number_at found 0) (number_at found 1) (word_indexed found).index (word_indexed found).offset

abbrev pub half_with : ℕ → HalfKind → ℕ → ℕ → Index → Result Offset AsmKind → Result Instr AsmKind
half_with cond kind rt rn index (Ok offset) = Ok (instr.Half cond kind index rn rt offset)
half_with cond kind rt rn index (Err fault) = Err fault

abbrev pub half : ℕ → HalfKind → Chosen → Result Instr AsmKind
half cond kind found =
    half_with cond kind (number_at found 0) (number_at found 1) (half_indexed found).index (half_indexed found).offset

-- `!` writes the moved base back
abbrev pub block : ℕ → Bool → Bool → Bool → Chosen → Result Instr AsmKind
block cond load before up found =
    Ok (instr.Block cond load before up (number_at found 1 == 1) (number_at found 0) (number_at found 2))

-- Exclusives: the second register of a doubleword is the next one.

abbrev pub load_exclusive : ℕ → Size → Chosen → Result Instr AsmKind
load_exclusive cond B8 found =
    if number_at found 1 == number_at found 0 + 1
    then Ok (instr.LoadEx cond B8 (number_at found 2) (number_at found 0))
    else Err kind.Operand
load_exclusive cond size found = Ok (instr.LoadEx cond size (number_at found 1) (number_at found 0))

abbrev pub store_exclusive : ℕ → Size → Chosen → Result Instr AsmKind
store_exclusive cond B8 found =
    if number_at found 2 == number_at found 1 + 1
    then Ok (instr.StoreEx cond B8 (number_at found 3) (number_at found 0) (number_at found 1))
    else Err kind.Operand
store_exclusive cond size found = Ok (instr.StoreEx cond size (number_at found 2) (number_at found 0) (number_at found 1))

-- a barrier alone is one of the whole system, for all accesses
abbrev pub barrier : BarrierKind → Chosen → Result Instr AsmKind
barrier barrier_kind found =
    if found.form == 0 then within 15 (number_at found 0) (instr.Barrier barrier_kind (number_at found 0)) else
    Ok (instr.Barrier barrier_kind 15)

-- an operation with operands of one of its forms
unfoldable pub means : Operation → Bool → ℕ → Site → Chosen → Result Instr AsmKind
means (Alu op) s cond site found = alu cond op s found
means Movw s cond site found = movw cond site.labels found
means Movt s cond site found = movt cond site.labels found
means Nop s cond site found = Ok (instr.Nop cond)
means Yield s cond site found = Ok (instr.Yield cond)
means Mul s cond site found = Ok (instr.Mul cond s (number_at found 0) (number_at found 1) (number_at found 2))
means Mla s cond site found = Ok (instr.Mla cond s (number_at found 0) (number_at found 1) (number_at found 2) (number_at found 3))
means Mls s cond site found = Ok (instr.Mls cond (number_at found 0) (number_at found 1) (number_at found 2) (number_at found 3))
means (Long kind) s cond site found =
    Ok (instr.Long cond kind s (number_at found 0) (number_at found 1) (number_at found 2) (number_at found 3))
means Clz s cond site found = Ok (instr.Clz cond (number_at found 0) (number_at found 1))
means Rev s cond site found = Ok (instr.Rev cond (number_at found 0) (number_at found 1))
means (Extend unsigned half) s cond site found = extend cond unsigned half found
means (Word load byte) s cond site found = word cond load byte found
means (Half kind) s cond site found = half cond kind found
means (Block load before up) s cond site found = block cond load before up found
means (Branch link) s cond site found = branch cond link site found
means (BranchReg link) s cond site found = Ok (instr.BranchReg cond link (number_at found 0))
means Svc s cond site found = within 16777215 (number_at found 0) (instr.Svc cond (number_at found 0))
means (LoadEx size) s cond site found = load_exclusive cond size found
means (StoreEx size) s cond site found = store_exclusive cond size found
means Clrex s cond site found = Ok instr.Clrex
means (Barrier kind) s cond site found = barrier kind found

abbrev pub of_chosen : Mnemonic → Site → Option Chosen → Result Instr AsmKind
of_chosen mnemonic site None = Err kind.Operand
of_chosen mnemonic site (Some found) = means mnemonic.operation mnemonic.set_flags mnemonic.cond site found

-- the instruction that a mnemonic and its operands mean
abbrev pub instruction_of : Mnemonic → Site → List Part → Result Instr AsmKind
instruction_of mnemonic site operands = of_chosen mnemonic site (chosen (operands_of mnemonic.operation) operands)
