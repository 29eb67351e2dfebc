-- What is shown of an instruction means the instruction.
use Rattle.std.proofs.Common.{◌≡◌, ℕ, zero, suc, ◌+◌, ◌-◌, ◌*◌, ◌%◌, ◌^◌, ◌<◌, ◌==◌, ◌&&◌, ℤ, pos, negsuc, Bool, true, false, if◌then◌else◌, List, [], ◌∷◌, ◌++◌, slice_index_or, Option, Some, None, Ok, arith, refl, ◌∙◌, ap}
use Rattle.std.proofs.lemmas.Bool.{eqb-true, lt-ltb, le-leb, eq-eqb}
use Rattle.std.proofs.Math.Bool.{and-true}
use Rattle.std.proofs.lemmas.Int.{ints}
use Rattle.a32_instr.specs.declared.instructions.AluOp.{AluOp}
use Rattle.a32_instr.specs.declared.instructions.AluOp.TheVariants.{And, Eor, Sub, Rsb, Add, Adc, Sbc, Rsc, Tst, Teq, Cmp, Cmn, Orr, Mov, Bic, Mvn}
use Rattle.a32_instr.specs.declared.instructions.ShiftKind.{ShiftKind}
use Rattle.a32_instr.specs.declared.instructions.ShiftKind.TheVariants.{Lsl, Lsr, Asr, Ror}
use Rattle.a32_instr.specs.declared.instructions.Operand2.{Operand2}
use Rattle.a32_instr.specs.declared.instructions.Operand2.TheVariants as operand
use Rattle.a32_instr.specs.declared.instructions.Offset.{Offset}
use Rattle.a32_instr.specs.declared.instructions.Offset.TheVariants as offset
use Rattle.a32_instr.specs.declared.instructions.Index.{Index}
use Rattle.a32_instr.specs.declared.instructions.Index.TheVariants.{Plain, Pre, Post}
use Rattle.a32_instr.specs.declared.instructions.HalfKind.{HalfKind}
use Rattle.a32_instr.specs.declared.instructions.BarrierKind.{BarrierKind}
use Rattle.a32_instr.specs.declared.instructions.Instr.{Instr}
use Rattle.a32_instr.specs.declared.instructions.Instr.TheVariants as instr
use Rattle.llsc_base.specs.declared.access.Size.{Size}
use Rattle.llsc_base.specs.declared.access.Size.TheVariants.{B1, B2, B4, B8}
use Rattle.a32_instr.specs.Fields.{shift_kind}
use Rattle.a32_instr.specs.Shift.{rotated_right, turned}
use Rattle.a32_instr.specs.Branch.{target_of}
use Rattle.a32_forms.specs.Forms.{Chosen, number_at}
use Rattle.a32_syntax.specs.Meaning.{Site, means, second_operand, least_immediate, number_and_turn, amount_of, turned_back, least_turn, word_indexed, half_indexed, branch_to, words_between, branch_by, alu_with, is_added}
use Rattle.a32_syntax.specs.Shown.{showing_of, operand_form, operand_numbers, word_form, half_form, access_numbers, shift_number, immediate_number, is_least, is_turn, is_base_alone, offset_numbers, exclamation_of, minus_of}
use Rattle.a32_syntax.specs.Formed.{DistanceFits, OperandFits, OperationFits, WordOffsetFits, HalfOffsetFits}

-- a form and its numbers, as if they were read
abbrev pub found : ℕ → List ℕ → Chosen
found form numbers = record { form = form; fields = record { numbers = numbers; name = [] } }

-- what is shown means the instruction
abbrev pub MeansBack : Instr → Site → Type 0
MeansBack instruction site =
    means (showing_of instruction site.here).mnemonic.operation (showing_of instruction site.here).mnemonic.set_flags
    (showing_of instruction site.here).mnemonic.cond site
    (found (showing_of instruction site.here).form (showing_of instruction site.here).numbers)
    ≡ Ok instruction

-- Shifts.

shift_back : (kind : ShiftKind) → shift_kind (shift_number kind) ≡ kind
unfolding shift_kind
shift_back Lsl = refl
shift_back Lsr = refl
shift_back Asr = refl
shift_back Ror = refl

pub nonzero : (n : ℕ) → suc n == 0 ≡ false
nonzero n = grind arith

-- Second operands.

-- a turn and back
turn_back : (x turn : ℕ) → turn < 16 → x < 256 → turned_back (rotated_right x (2 * turn)) turn ≡ x
unfolding turned_back turned
turn_back x (suc (suc (suc (suc (suc (suc (suc (suc (suc (suc (suc (suc (suc (suc (suc (suc turn)))))))))))))))) h small = absurd (omega arith)
turn_back x turn h small = omega arith

pub number_small : (x turn : ℕ) → turn < 16 → x < 256 → immediate_number turn x < 2 ^ 32
unfolding turned
number_small x (suc (suc (suc (suc (suc (suc (suc (suc (suc (suc (suc (suc (suc (suc (suc (suc turn)))))))))))))))) h small = absurd (omega arith)
number_small x turn h small = omega arith

-- the least turn is this one
least_is : (turn : ℕ) (least : Option ℕ) → is_turn turn least ≡ true → least ≡ Some turn
least_is turn None e = cc
least_is turn (Some least) e = ap Some (eqb-true least turn e)

plain_back : (turn imm8 : ℕ) → turn < 16 → imm8 < 256 → is_least turn imm8 ≡ true → least_immediate (immediate_number turn imm8) ≡ Ok (operand.Imm turn imm8)
unfolding least_immediate
plain_back turn imm8 h small least =
    rw (lt-ltb (immediate_number turn imm8) (2 ^ 32) (number_small imm8 turn h small), least_is turn (least_turn (immediate_number turn imm8)) least, turn_back imm8 turn h small) refl

turned_back_is : (turn imm8 : ℕ) → turn < 16 → imm8 < 256 → number_and_turn imm8 (2 * turn) ≡ Ok (operand.Imm turn imm8)
unfolding number_and_turn
turned_back_is turn imm8 h small = grind arith

-- an amount that isn't 0, and one that is, which stands for 32
amount_back : (kind : ShiftKind) (amount : ℕ) → suc amount < 32 → amount_of kind (suc amount) ≡ Ok (suc amount)
unfolding amount_of
amount_back Lsl amount h = grind arith
amount_back Lsr amount h = grind arith
amount_back Asr amount h = grind arith
amount_back Ror amount h = grind arith

whole_lsr : amount_of Lsr 32 ≡ Ok 0
unfolding amount_of
whole_lsr = refl

whole_asr : amount_of Asr 32 ≡ Ok 0
unfolding amount_of
whole_asr = refl

pub movw_back : (cond rd imm : ℕ) (site : Site) → imm < 2 ^ 16 → MeansBack (instr.Movw cond rd imm) site
unfolding means showing_of
movw_back cond rd imm site h = grind arith

pub extend_back : (cond : ℕ) (unsigned half : Bool) (rd rm turn : ℕ) (site : Site) → turn < 4 → MeansBack (instr.Extend cond unsigned half rd rm turn) site
unfolding means showing_of
extend_back cond unsigned half rd rm zero site h = refl
extend_back cond unsigned half rd rm (suc zero) site h = refl
extend_back cond unsigned half rd rm (suc (suc zero)) site h = refl
extend_back cond unsigned half rd rm (suc (suc (suc zero))) site h = refl
extend_back cond unsigned half rd rm (suc (suc (suc (suc turn)))) site h = absurd (omega arith)

-- Branches.

branch_to_is : (cond : ℕ) (link : Bool) (here target words : ℕ) → target < 2 ^ 32 → target % 4 ≡ 0 → words_between here target ≡ words
    → branch_to cond link here target ≡ branch_by cond link words
unfolding branch_to
branch_to_is cond link here target words small whole is =
    rw (lt-ltb target (2 ^ 32) small, eq-eqb (target % 4) 0 whole, is) refl

ahead : (cond : ℕ) (link : Bool) (words : ℕ) → words < 2 ^ 23 → branch_by cond link words ≡ Ok (instr.Branch cond link (pos words))
ahead cond link words h = grind arith

behind : (cond : ℕ) (link : Bool) (words : ℕ) → words < 2 ^ 23 → branch_by cond link (2 ^ 30 - suc words) ≡ Ok (instr.Branch cond link (negsuc words))
behind cond link words h = grind (arith, ints)

target_behind : (here words : ℕ) → here < 2 ^ 32 → words < 2 ^ 23 → target_of here (negsuc words) ≡ (here + 8 + (2 ^ 32 - 4 * suc words)) % 2 ^ 32
unfolding target_of
target_behind here words small h = grind (arith, ints)

pub branch_back : (cond : ℕ) (link : Bool) (words : ℤ) (site : Site) → site.here % 4 ≡ 0 → site.here < 2 ^ 32 → DistanceFits words → MeansBack (instr.Branch cond link words) site
unfolding means showing_of target_of
branch_back cond link (pos words) site whole small h =
    branch_to_is cond link site.here ((site.here + 8 + 4 * words) % 2 ^ 32) words (omega arith) (omega arith) (omega arith) ∙ ahead cond link words h
branch_back cond link (negsuc words) site whole small h =
    rw (target_behind site.here words small h)
    (branch_to_is cond link site.here ((site.here + 8 + (2 ^ 32 - 4 * suc words)) % 2 ^ 32) (2 ^ 30 - suc words) (omega arith) (omega arith) (omega arith)
    ∙ behind cond link words h)

-- Data processing.

imm_back1 : (turn imm8 r : ℕ) → turn < 16 → imm8 < 256 → (least : Bool) → is_least turn imm8 ≡ least
    → second_operand (found (operand_form (operand.Imm turn imm8)) (r ∷ operand_numbers (operand.Imm turn imm8))) 1 ≡ Ok (operand.Imm turn imm8)
unfolding second_operand operand_form operand_numbers
imm_back1 turn imm8 r h small true e = rw e (plain_back turn imm8 h small e)
imm_back1 turn imm8 r h small false e = rw e (turned_back_is turn imm8 h small)

operand_back1 : (operand : Operand2) (r : ℕ) → OperandFits operand → second_operand (found (operand_form operand) (r ∷ operand_numbers operand)) 1 ≡ Ok operand
unfolding second_operand operand_form operand_numbers
operand_back1 (operand.Imm turn imm8) r fits = imm_back1 turn imm8 r fits.0 fits.1 (is_least turn imm8) refl
operand_back1 (operand.ByReg rm kind rs) r fits = rw (shift_back kind) refl
operand_back1 (operand.ByNum rm Lsl zero) r fits = refl
operand_back1 (operand.ByNum rm Lsl (suc amount)) r fits = rw (nonzero amount, shift_back Lsl, amount_back Lsl amount fits.1) refl
operand_back1 (operand.ByNum rm Lsr zero) r fits = rw (shift_back Lsr, whole_lsr) refl
operand_back1 (operand.ByNum rm Lsr (suc amount)) r fits = rw (nonzero amount, shift_back Lsr, amount_back Lsr amount fits.1) refl
operand_back1 (operand.ByNum rm Asr zero) r fits = rw (shift_back Asr, whole_asr) refl
operand_back1 (operand.ByNum rm Asr (suc amount)) r fits = rw (nonzero amount, shift_back Asr, amount_back Asr amount fits.1) refl
operand_back1 (operand.ByNum rm Ror zero) r fits = refl
operand_back1 (operand.ByNum rm Ror (suc amount)) r fits = rw (nonzero amount, shift_back Ror, amount_back Ror amount fits.1) refl

imm_back2 : (turn imm8 q r : ℕ) → turn < 16 → imm8 < 256 → (least : Bool) → is_least turn imm8 ≡ least
    → second_operand (found (operand_form (operand.Imm turn imm8)) (q ∷ r ∷ operand_numbers (operand.Imm turn imm8))) 2 ≡ Ok (operand.Imm turn imm8)
unfolding second_operand operand_form operand_numbers
imm_back2 turn imm8 q r h small true e = rw e (plain_back turn imm8 h small e)
imm_back2 turn imm8 q r h small false e = rw e (turned_back_is turn imm8 h small)

operand_back2 : (operand : Operand2) (q r : ℕ) → OperandFits operand → second_operand (found (operand_form operand) (q ∷ r ∷ operand_numbers operand)) 2 ≡ Ok operand
unfolding second_operand operand_form operand_numbers
operand_back2 (operand.Imm turn imm8) q r fits = imm_back2 turn imm8 q r fits.0 fits.1 (is_least turn imm8) refl
operand_back2 (operand.ByReg rm kind rs) q r fits = rw (shift_back kind) refl
operand_back2 (operand.ByNum rm Lsl zero) q r fits = refl
operand_back2 (operand.ByNum rm Lsl (suc amount)) q r fits = rw (nonzero amount, shift_back Lsl, amount_back Lsl amount fits.1) refl
operand_back2 (operand.ByNum rm Lsr zero) q r fits = rw (shift_back Lsr, whole_lsr) refl
operand_back2 (operand.ByNum rm Lsr (suc amount)) q r fits = rw (nonzero amount, shift_back Lsr, amount_back Lsr amount fits.1) refl
operand_back2 (operand.ByNum rm Asr zero) q r fits = rw (shift_back Asr, whole_asr) refl
operand_back2 (operand.ByNum rm Asr (suc amount)) q r fits = rw (nonzero amount, shift_back Asr, amount_back Asr amount fits.1) refl
operand_back2 (operand.ByNum rm Ror zero) q r fits = refl
operand_back2 (operand.ByNum rm Ror (suc amount)) q r fits = rw (nonzero amount, shift_back Ror, amount_back Ror amount fits.1) refl

compare_back : (cond : ℕ) (op : AluOp) (s : Bool) (rd rn : ℕ) (operand : Operand2) → s ≡ true → rd ≡ 0 → OperandFits operand
    → alu_with cond op true 0 rn (second_operand (found (operand_form operand) (rn ∷ operand_numbers operand)) 1) ≡ Ok (instr.Alu cond op s rd rn operand)
compare_back cond op s rd rn operand loud none fits = rw (operand_back1 operand rn fits, loud, none) refl

move_back : (cond : ℕ) (op : AluOp) (s : Bool) (rd rn : ℕ) (operand : Operand2) → rn ≡ 0 → OperandFits operand
    → alu_with cond op (s && true) rd 0 (second_operand (found (operand_form operand) (rd ∷ operand_numbers operand)) 1) ≡ Ok (instr.Alu cond op s rd rn operand)
move_back cond op s rd rn operand none fits = rw (operand_back1 operand rd fits, none, and-true s) refl

operation_back : (cond : ℕ) (op : AluOp) (s : Bool) (rd rn : ℕ) (operand : Operand2) → OperandFits operand
    → alu_with cond op (s && true) rd rn (second_operand (found (operand_form operand) (rd ∷ rn ∷ operand_numbers operand)) 2) ≡ Ok (instr.Alu cond op s rd rn operand)
operation_back cond op s rd rn operand fits = rw (operand_back2 operand rd rn fits, and-true s) refl

pub alu_back : (cond : ℕ) (op : AluOp) (s : Bool) (rd rn : ℕ) (operand : Operand2) (site : Site) → OperationFits op s rd rn → OperandFits operand
    → MeansBack (instr.Alu cond op s rd rn operand) site
unfolding means showing_of
alu_back cond And s rd rn operand site form fits = operation_back cond And s rd rn operand fits
alu_back cond Eor s rd rn operand site form fits = operation_back cond Eor s rd rn operand fits
alu_back cond Sub s rd rn operand site form fits = operation_back cond Sub s rd rn operand fits
alu_back cond Rsb s rd rn operand site form fits = operation_back cond Rsb s rd rn operand fits
alu_back cond Add s rd rn operand site form fits = operation_back cond Add s rd rn operand fits
alu_back cond Adc s rd rn operand site form fits = operation_back cond Adc s rd rn operand fits
alu_back cond Sbc s rd rn operand site form fits = operation_back cond Sbc s rd rn operand fits
alu_back cond Rsc s rd rn operand site form fits = operation_back cond Rsc s rd rn operand fits
alu_back cond Tst s rd rn operand site form fits = compare_back cond Tst s rd rn operand (form.0 refl).0 (form.0 refl).1 fits
alu_back cond Teq s rd rn operand site form fits = compare_back cond Teq s rd rn operand (form.0 refl).0 (form.0 refl).1 fits
alu_back cond Cmp s rd rn operand site form fits = compare_back cond Cmp s rd rn operand (form.0 refl).0 (form.0 refl).1 fits
alu_back cond Cmn s rd rn operand site form fits = compare_back cond Cmn s rd rn operand (form.0 refl).0 (form.0 refl).1 fits
alu_back cond Orr s rd rn operand site form fits = operation_back cond Orr s rd rn operand fits
alu_back cond Mov s rd rn operand site form fits = move_back cond Mov s rd rn operand (form.1 refl) fits
alu_back cond Bic s rd rn operand site form fits = operation_back cond Bic s rd rn operand fits
alu_back cond Mvn s rd rn operand site form fits = move_back cond Mvn s rd rn operand (form.1 refl) fits

-- Loads and stores.

added_back : (add : Bool) → is_added (minus_of add) ≡ add
added_back true = refl
added_back false = refl

word_indexed_back : (index : Index) (offset : Offset) (rt rn : ℕ) → WordOffsetFits offset
    → word_indexed (found (word_form index offset) (access_numbers index offset rt rn)) ≡ record { index = index; offset = Ok offset }
unfolding word_indexed word_form access_numbers
word_indexed_back Plain (offset.Imm true zero) rt rn fits = refl
word_indexed_back Plain (offset.Imm true (suc imm)) rt rn fits = rw (nonzero imm, le-leb (suc imm) 4095 (omega arith)) refl
word_indexed_back Plain (offset.Imm false imm) rt rn fits = rw (le-leb imm 4095 (omega arith)) refl
word_indexed_back Pre (offset.Imm true imm) rt rn fits = rw (le-leb imm 4095 (omega arith)) refl
word_indexed_back Pre (offset.Imm false imm) rt rn fits = rw (le-leb imm 4095 (omega arith)) refl
word_indexed_back Post (offset.Imm true imm) rt rn fits = rw (le-leb imm 4095 (omega arith)) refl
word_indexed_back Post (offset.Imm false imm) rt rn fits = rw (le-leb imm 4095 (omega arith)) refl
word_indexed_back Plain (offset.Shifted add rm Lsl zero) rt rn fits = rw (added_back add) refl
word_indexed_back Plain (offset.Shifted add rm Lsl (suc amount)) rt rn fits = rw (nonzero amount, shift_back Lsl, amount_back Lsl amount fits.1, added_back add) refl
word_indexed_back Plain (offset.Shifted add rm Lsr zero) rt rn fits = rw (shift_back Lsr, whole_lsr, added_back add) refl
word_indexed_back Plain (offset.Shifted add rm Lsr (suc amount)) rt rn fits = rw (nonzero amount, shift_back Lsr, amount_back Lsr amount fits.1, added_back add) refl
word_indexed_back Plain (offset.Shifted add rm Asr zero) rt rn fits = rw (shift_back Asr, whole_asr, added_back add) refl
word_indexed_back Plain (offset.Shifted add rm Asr (suc amount)) rt rn fits = rw (nonzero amount, shift_back Asr, amount_back Asr amount fits.1, added_back add) refl
word_indexed_back Plain (offset.Shifted add rm Ror zero) rt rn fits = rw (added_back add) refl
word_indexed_back Plain (offset.Shifted add rm Ror (suc amount)) rt rn fits = rw (nonzero amount, shift_back Ror, amount_back Ror amount fits.1, added_back add) refl
word_indexed_back Pre (offset.Shifted add rm Lsl zero) rt rn fits = rw (added_back add) refl
word_indexed_back Pre (offset.Shifted add rm Lsl (suc amount)) rt rn fits = rw (nonzero amount, shift_back Lsl, amount_back Lsl amount fits.1, added_back add) refl
word_indexed_back Pre (offset.Shifted add rm Lsr zero) rt rn fits = rw (shift_back Lsr, whole_lsr, added_back add) refl
word_indexed_back Pre (offset.Shifted add rm Lsr (suc amount)) rt rn fits = rw (nonzero amount, shift_back Lsr, amount_back Lsr amount fits.1, added_back add) refl
word_indexed_back Pre (offset.Shifted add rm Asr zero) rt rn fits = rw (shift_back Asr, whole_asr, added_back add) refl
word_indexed_back Pre (offset.Shifted add rm Asr (suc amount)) rt rn fits = rw (nonzero amount, shift_back Asr, amount_back Asr amount fits.1, added_back add) refl
word_indexed_back Pre (offset.Shifted add rm Ror zero) rt rn fits = rw (added_back add) refl
word_indexed_back Pre (offset.Shifted add rm Ror (suc amount)) rt rn fits = rw (nonzero amount, shift_back Ror, amount_back Ror amount fits.1, added_back add) refl
word_indexed_back Post (offset.Shifted add rm Lsl zero) rt rn fits = rw (added_back add) refl
word_indexed_back Post (offset.Shifted add rm Lsl (suc amount)) rt rn fits = rw (nonzero amount, shift_back Lsl, amount_back Lsl amount fits.1, added_back add) refl
word_indexed_back Post (offset.Shifted add rm Lsr zero) rt rn fits = rw (shift_back Lsr, whole_lsr, added_back add) refl
word_indexed_back Post (offset.Shifted add rm Lsr (suc amount)) rt rn fits = rw (nonzero amount, shift_back Lsr, amount_back Lsr amount fits.1, added_back add) refl
word_indexed_back Post (offset.Shifted add rm Asr zero) rt rn fits = rw (shift_back Asr, whole_asr, added_back add) refl
word_indexed_back Post (offset.Shifted add rm Asr (suc amount)) rt rn fits = rw (nonzero amount, shift_back Asr, amount_back Asr amount fits.1, added_back add) refl
word_indexed_back Post (offset.Shifted add rm Ror zero) rt rn fits = rw (added_back add) refl
word_indexed_back Post (offset.Shifted add rm Ror (suc amount)) rt rn fits = rw (nonzero amount, shift_back Ror, amount_back Ror amount fits.1, added_back add) refl

-- kinds of shift that are another
pub differs_Lsr : Lsr ≡ Lsl → ⊥
differs_Lsr e = cc

pub differs_Asr : Asr ≡ Lsl → ⊥
differs_Asr e = cc

pub differs_Ror : Ror ≡ Lsl → ⊥
differs_Ror e = cc

half_indexed_back : (index : Index) (offset : Offset) (rt rn : ℕ) → HalfOffsetFits offset
    → half_indexed (found (half_form index offset) (access_numbers index offset rt rn)) ≡ record { index = index; offset = Ok offset }
unfolding half_indexed half_form access_numbers
half_indexed_back Plain (offset.Imm true zero) rt rn fits = refl
half_indexed_back Plain (offset.Imm true (suc imm)) rt rn fits = rw (nonzero imm, le-leb (suc imm) 255 (omega arith)) refl
half_indexed_back Plain (offset.Imm false imm) rt rn fits = rw (le-leb imm 255 (omega arith)) refl
half_indexed_back Pre (offset.Imm true imm) rt rn fits = rw (le-leb imm 255 (omega arith)) refl
half_indexed_back Pre (offset.Imm false imm) rt rn fits = rw (le-leb imm 255 (omega arith)) refl
half_indexed_back Post (offset.Imm true imm) rt rn fits = rw (le-leb imm 255 (omega arith)) refl
half_indexed_back Post (offset.Imm false imm) rt rn fits = rw (le-leb imm 255 (omega arith)) refl
half_indexed_back Plain (offset.Shifted add rm Lsl zero) rt rn fits = rw (added_back add) refl
half_indexed_back Pre (offset.Shifted add rm Lsl zero) rt rn fits = rw (added_back add) refl
half_indexed_back Post (offset.Shifted add rm Lsl zero) rt rn fits = rw (added_back add) refl
half_indexed_back Plain (offset.Shifted add rm Lsl (suc amount)) rt rn fits = absurd (omega arith)
half_indexed_back Plain (offset.Shifted add rm Lsr amount) rt rn fits = absurd (differs_Lsr fits.1)
half_indexed_back Plain (offset.Shifted add rm Asr amount) rt rn fits = absurd (differs_Asr fits.1)
half_indexed_back Plain (offset.Shifted add rm Ror amount) rt rn fits = absurd (differs_Ror fits.1)
half_indexed_back Pre (offset.Shifted add rm Lsl (suc amount)) rt rn fits = absurd (omega arith)
half_indexed_back Pre (offset.Shifted add rm Lsr amount) rt rn fits = absurd (differs_Lsr fits.1)
half_indexed_back Pre (offset.Shifted add rm Asr amount) rt rn fits = absurd (differs_Asr fits.1)
half_indexed_back Pre (offset.Shifted add rm Ror amount) rt rn fits = absurd (differs_Ror fits.1)
half_indexed_back Post (offset.Shifted add rm Lsl (suc amount)) rt rn fits = absurd (omega arith)
half_indexed_back Post (offset.Shifted add rm Lsr amount) rt rn fits = absurd (differs_Lsr fits.1)
half_indexed_back Post (offset.Shifted add rm Asr amount) rt rn fits = absurd (differs_Asr fits.1)
half_indexed_back Post (offset.Shifted add rm Ror amount) rt rn fits = absurd (differs_Ror fits.1)

-- an access's registers stand in front
front_of : (alone : Bool) (rt rn at : ℕ) (numbers : List ℕ) → at < 2
    → slice_index_or (if alone then rt ∷ rn ∷ [] else rt ∷ rn ∷ numbers) at 0 ≡ slice_index_or (rt ∷ rn ∷ []) at 0
front_of true rt rn at numbers h = refl
front_of false rt rn zero numbers h = refl
front_of false rt rn (suc zero) numbers h = refl
front_of false rt rn (suc (suc at)) numbers h = absurd (omega arith)

register_front : (form : ℕ) (index : Index) (offset : Offset) (rt rn : ℕ) → number_at (found form (access_numbers index offset rt rn)) 0 ≡ rt
unfolding access_numbers
register_front form index offset rt rn =
    front_of (is_base_alone index offset) rt rn 0 (offset_numbers offset ++ exclamation_of index) (omega arith)

base_front : (form : ℕ) (index : Index) (offset : Offset) (rt rn : ℕ) → number_at (found form (access_numbers index offset rt rn)) 1 ≡ rn
unfolding access_numbers
base_front form index offset rt rn =
    front_of (is_base_alone index offset) rt rn 1 (offset_numbers offset ++ exclamation_of index) (omega arith)

pub word_back : (cond : ℕ) (load byte : Bool) (index : Index) (rn rt : ℕ) (offset : Offset) (site : Site) → WordOffsetFits offset
    → MeansBack (instr.Word cond load byte index rn rt offset) site
unfolding means showing_of
word_back cond load byte index rn rt offset site fits =
    rw (word_indexed_back index offset rt rn fits, register_front (word_form index offset) index offset rt rn, base_front (word_form index offset) index offset rt rn) refl

pub half_back : (cond : ℕ) (kind : HalfKind) (index : Index) (rn rt : ℕ) (offset : Offset) (site : Site) → HalfOffsetFits offset
    → MeansBack (instr.Half cond kind index rn rt offset) site
unfolding means showing_of
half_back cond kind index rn rt offset site fits =
    rw (half_indexed_back index offset rt rn fits, register_front (half_form index offset) index offset rt rn, base_front (half_form index offset) index offset rt rn) refl

-- The others.

pub block_back : (cond : ℕ) (load before up wback : Bool) (rn list : ℕ) (site : Site) → MeansBack (instr.Block cond load before up wback rn list) site
unfolding means showing_of
block_back cond load before up true rn list site = refl
block_back cond load before up false rn list site = refl

pub load_exclusive_back : (cond : ℕ) (size : Size) (rn rt : ℕ) (site : Site) → MeansBack (instr.LoadEx cond size rn rt) site
unfolding means showing_of
load_exclusive_back cond B1 rn rt site = refl
load_exclusive_back cond B2 rn rt site = refl
load_exclusive_back cond B4 rn rt site = refl
load_exclusive_back cond B8 rn rt site = rw (eq-eqb (rt + 1) (rt + 1) refl) refl

pub store_exclusive_back : (cond : ℕ) (size : Size) (rn rd rt : ℕ) (site : Site) → MeansBack (instr.StoreEx cond size rn rd rt) site
unfolding means showing_of
store_exclusive_back cond B1 rn rd rt site = refl
store_exclusive_back cond B2 rn rd rt site = refl
store_exclusive_back cond B4 rn rd rt site = refl
store_exclusive_back cond B8 rn rd rt site = rw (eq-eqb (rt + 1) (rt + 1) refl) refl

pub movt_back : (cond rd imm : ℕ) (site : Site) → imm < 2 ^ 16 → MeansBack (instr.Movt cond rd imm) site
unfolding means showing_of
movt_back cond rd imm site h = grind arith

pub svc_back : (cond imm : ℕ) (site : Site) → imm < 2 ^ 24 → MeansBack (instr.Svc cond imm) site
unfolding means showing_of
svc_back cond imm site h = grind arith

pub barrier_back : (kind : BarrierKind) (option : ℕ) (site : Site) → option < 16 → MeansBack (instr.Barrier kind option) site
unfolding means showing_of
barrier_back kind option site h = grind arith
