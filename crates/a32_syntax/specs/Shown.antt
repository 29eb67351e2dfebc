-- How an instruction is shown: its mnemonic, and one of the forms of its operands with numbers.
use Rattle.std.specs.Prelude.{ℕ, ◌+◌, ◌*◌, ◌==◌, ◌&&◌, ◌||◌, not, nat_le, nat_lt, if◌then◌else◌, Bool, true, false, List, [], ◌∷◌, ◌++◌, Option, Some, None}
use Rattle.a32_instr.specs.declared.instructions.AluOp.{AluOp}
use Rattle.a32_instr.specs.declared.instructions.ShiftKind.{ShiftKind}
use Rattle.a32_instr.specs.declared.instructions.ShiftKind.TheVariants.{Lsl, Lsr, Asr, Ror}
use Rattle.a32_instr.specs.declared.instructions.Operand2.{Operand2}
use Rattle.a32_instr.specs.declared.instructions.Operand2.TheVariants as operand
use Rattle.a32_instr.specs.declared.instructions.Offset.{Offset}
use Rattle.a32_instr.specs.declared.instructions.Offset.TheVariants as offset
use Rattle.a32_instr.specs.declared.instructions.Index.{Index}
use Rattle.a32_instr.specs.declared.instructions.Index.TheVariants.{Plain, Pre, Post}
use Rattle.a32_instr.specs.declared.instructions.Instr.{Instr}
use Rattle.a32_instr.specs.declared.instructions.Instr.TheVariants as instr
use Rattle.llsc_base.specs.declared.access.Size.{Size}
use Rattle.llsc_base.specs.declared.access.Size.TheVariants.{B8}
use Rattle.a32_instr.specs.Condition.{always}
use Rattle.a32_instr.specs.Fields.{is_compare, is_move}
use Rattle.a32_instr.specs.Shift.{rotated_right}
use Rattle.a32_instr.specs.Branch.{target_of}
use Rattle.a32_instr.specs.DataProcessing.{one_if}
use Rattle.a32_forms.specs.Forms.{form_in}
use Rattle.a32_forms.specs.Written.{written}
use Rattle.a32_syntax.specs.declared.operations.Operation.{Operation}
use Rattle.a32_syntax.specs.declared.operations.Operation.TheVariants.{Alu, Movw, Movt, Nop, Yield, Mul, Mla, Mls, Long, Clz, Rev, Extend, Word, Half, Block, Branch, BranchReg, Svc, LoadEx, StoreEx, Clrex, Barrier}
use Rattle.a32_syntax.specs.declared.operations.Mnemonic.{Mnemonic}
use Rattle.a32_syntax.specs.Mnemonics.{mnemonic, mnemonic_text}
use Rattle.a32_syntax.specs.Operands.{operands_of, as_number, as_turned_number, as_register, as_shifted_by_number, as_turned_through_carry, as_shifted_by_register, at_base_alone, moved_by_number, moved_by_register, moved_by_shifted, moved_by_turned, word_places_on, half_places_on}
use Rattle.a32_syntax.specs.Meaning.{least_turn}

-- What is shown of an instruction: a mnemonic, the place of a form among those of its operation, and the form's numbers.
pub record Showing : Type 0 where
  pub mnemonic : Mnemonic
  pub form : ℕ
  pub numbers : List ℕ

abbrev pub showing : Operation → Bool → ℕ → ℕ → List ℕ → Showing
showing operation set_flags cond form numbers =
    record { mnemonic = mnemonic operation set_flags cond; form = form; numbers = numbers }

-- the number of a kind of shift
abbrev pub shift_number : ShiftKind → ℕ
shift_number Lsl = 0
shift_number Lsr = 1
shift_number Asr = 2
shift_number Ror = 3

-- the bits of a shift by its field: at LSR and ASR 0 stands for 32
abbrev pub bits_shown : ℕ → ℕ
bits_shown amount = if amount == 0 then 32 else amount

-- which of the forms of an operand that is shifted by a number: not at all, through the carry, or by a number
abbrev pub is_unshifted : ShiftKind → ℕ → Bool
is_unshifted Lsl amount = amount == 0
is_unshifted _ amount = false

abbrev pub is_through_carry : ShiftKind → ℕ → Bool
is_through_carry Ror amount = amount == 0
is_through_carry _ amount = false

-- Data processing.

-- the number of an immediate
abbrev pub immediate_number : ℕ → ℕ → ℕ
immediate_number turn imm8 = rotated_right imm8 (2 * turn)

abbrev pub is_turn : ℕ → Option ℕ → Bool
is_turn turn None = false
is_turn turn (Some least) = least == turn

-- an immediate whose turn is the least that gives its number
abbrev pub is_least : ℕ → ℕ → Bool
is_least turn imm8 = is_turn turn (least_turn (immediate_number turn imm8))

unfoldable pub operand_form : Operand2 → ℕ
operand_form (operand.Imm turn imm8) = if is_least turn imm8 then as_number else as_turned_number
operand_form (operand.ByNum rm kind amount) =
    if is_unshifted kind amount then as_register else
    if is_through_carry kind amount then as_turned_through_carry else
    as_shifted_by_number
operand_form (operand.ByReg rm kind rs) = as_shifted_by_register

unfoldable pub operand_numbers : Operand2 → List ℕ
operand_numbers (operand.Imm turn imm8) = if is_least turn imm8 then immediate_number turn imm8 ∷ [] else imm8 ∷ 2 * turn ∷ []
operand_numbers (operand.ByNum rm kind amount) =
    if is_unshifted kind amount || is_through_carry kind amount then rm ∷ [] else rm ∷ shift_number kind ∷ bits_shown amount ∷ []
operand_numbers (operand.ByReg rm kind rs) = rm ∷ shift_number kind ∷ rs ∷ []

-- the registers before the second operand
abbrev pub alu_registers : AluOp → ℕ → ℕ → List ℕ
alu_registers op rd rn = if is_compare op then rn ∷ [] else if is_move op then rd ∷ [] else rd ∷ rn ∷ []

-- Loads and stores.

abbrev pub minus_of : Bool → ℕ
minus_of add = if add then 0 else 1

abbrev pub is_post : Index → Bool
is_post Post = true
is_post _ = false

-- the number of the `!`, which a form with the offset behind the base doesn't have
abbrev pub exclamation_of : Index → List ℕ
exclamation_of Plain = 0 ∷ []
exclamation_of Pre = 1 ∷ []
exclamation_of Post = []

-- an added 0 with no write-back isn't shown
abbrev pub is_base_alone : Index → Offset → Bool
is_base_alone Plain (offset.Imm add imm) = add && (imm == 0)
is_base_alone _ _ = false

-- the place of an offset's form among those of one index
abbrev pub offset_form : Offset → ℕ
offset_form (offset.Imm add imm) = moved_by_number
offset_form (offset.Shifted add rm kind amount) =
    if is_unshifted kind amount then moved_by_register else if is_through_carry kind amount then moved_by_turned else moved_by_shifted

abbrev pub offset_numbers : Offset → List ℕ
offset_numbers (offset.Imm add imm) = minus_of add ∷ imm ∷ []
offset_numbers (offset.Shifted add rm kind amount) =
    if is_unshifted kind amount || is_through_carry kind amount
    then minus_of add ∷ rm ∷ []
    else minus_of add ∷ rm ∷ shift_number kind ∷ bits_shown amount ∷ []

unfoldable pub word_form : Index → Offset → ℕ
word_form index offset =
    if is_base_alone index offset then at_base_alone else if is_post index then offset_form offset + word_places_on else offset_form offset

unfoldable pub half_form : Index → Offset → ℕ
half_form index offset =
    if is_base_alone index offset then at_base_alone else if is_post index then offset_form offset + half_places_on else offset_form offset

unfoldable pub access_numbers : Index → Offset → ℕ → ℕ → List ℕ
access_numbers index offset rt rn =
    if is_base_alone index offset then rt ∷ rn ∷ [] else rt ∷ rn ∷ (offset_numbers offset ++ exclamation_of index)

-- The others.

abbrev pub load_exclusive_numbers : Size → ℕ → ℕ → List ℕ
load_exclusive_numbers B8 rn rt = rt ∷ (rt + 1) ∷ rn ∷ []
load_exclusive_numbers _ rn rt = rt ∷ rn ∷ []

abbrev pub store_exclusive_numbers : Size → ℕ → ℕ → ℕ → List ℕ
store_exclusive_numbers B8 rn rd rt = rd ∷ rt ∷ (rt + 1) ∷ rn ∷ []
store_exclusive_numbers _ rn rd rt = rd ∷ rt ∷ rn ∷ []

-- what is shown of an instruction at an address
unfoldable pub showing_of : Instr → ℕ → Showing
showing_of (instr.Alu cond op s rd rn operand) here =
    showing (Alu op) (s && not (is_compare op)) cond (operand_form operand) (alu_registers op rd rn ++ operand_numbers operand)
showing_of (instr.Movw cond rd imm) here = showing Movw false cond 0 (rd ∷ imm ∷ [])
showing_of (instr.Movt cond rd imm) here = showing Movt false cond 0 (rd ∷ imm ∷ [])
showing_of (instr.Nop cond) here = showing Nop false cond 0 []
showing_of (instr.Yield cond) here = showing Yield false cond 0 []
showing_of (instr.Mul cond s rd rn rm) here = showing Mul s cond 0 (rd ∷ rn ∷ rm ∷ [])
showing_of (instr.Mla cond s rd rn rm ra) here = showing Mla s cond 0 (rd ∷ rn ∷ rm ∷ ra ∷ [])
showing_of (instr.Mls cond rd rn rm ra) here = showing Mls false cond 0 (rd ∷ rn ∷ rm ∷ ra ∷ [])
showing_of (instr.Long cond kind s lo hi rn rm) here = showing (Long kind) s cond 0 (lo ∷ hi ∷ rn ∷ rm ∷ [])
showing_of (instr.Clz cond rd rm) here = showing Clz false cond 0 (rd ∷ rm ∷ [])
showing_of (instr.Rev cond rd rm) here = showing Rev false cond 0 (rd ∷ rm ∷ [])
showing_of (instr.Extend cond unsigned half rd rm turn) here =
    if turn == 0
    then showing (Extend unsigned half) false cond 0 (rd ∷ rm ∷ [])
    else showing (Extend unsigned half) false cond 1 (rd ∷ rm ∷ 8 * turn ∷ [])
showing_of (instr.Word cond load byte index rn rt offset) here =
    showing (Word load byte) false cond (word_form index offset) (access_numbers index offset rt rn)
showing_of (instr.Half cond kind index rn rt offset) here =
    showing (Half kind) false cond (half_form index offset) (access_numbers index offset rt rn)
showing_of (instr.Block cond load before up wback rn list) here =
    showing (Block load before up) false cond 0 (rn ∷ one_if wback ∷ list ∷ [])
showing_of (instr.Branch cond link words) here = showing (Branch link) false cond 0 (target_of here words ∷ [])
showing_of (instr.BranchReg cond link rm) here = showing (BranchReg link) false cond 0 (rm ∷ [])
showing_of (instr.Svc cond imm) here = showing Svc false cond 0 (imm ∷ [])
showing_of (instr.LoadEx cond size rn rt) here = showing (LoadEx size) false cond 0 (load_exclusive_numbers size rn rt)
showing_of (instr.StoreEx cond size rn rd rt) here = showing (StoreEx size) false cond 0 (store_exclusive_numbers size rn rd rt)
showing_of instr.Clrex here = showing Clrex false always 0 []
showing_of (instr.Barrier kind option) here = showing (Barrier kind) false always 0 (option ∷ [])

-- the operands of a form behind a space, and nothing for the form without operands
abbrev pub operands_text : List ℕ → List ℕ → List ℕ
operands_text [] numbers = []
operands_text (sign ∷ form) numbers = 32 ∷ written (sign ∷ form) numbers

-- the operands that are shown, behind a space
abbrev pub operands_of_showing : Showing → List ℕ
operands_of_showing shown = operands_text (form_in (operands_of shown.mnemonic.operation) shown.form) shown.numbers

abbrev pub text_of : Showing → List ℕ
text_of shown = mnemonic_text shown.mnemonic ++ operands_of_showing shown

-- the text of an instruction at an address
abbrev pub instruction_text : Instr → ℕ → List ℕ
instruction_text instruction here = text_of (showing_of instruction here)

-- the operands in that text, with the space in front of them
abbrev pub operands_shown : Instr → ℕ → List ℕ
operands_shown instruction here = operands_of_showing (showing_of instruction here)

-- a byte that may stand in such a text: a space, or a printed one of ASCII but for `@`, which begins a comment
abbrev pub is_shown_code : ℕ → Bool
is_shown_code code = nat_le 32 code && (nat_lt code 127 && not (code == 64))
