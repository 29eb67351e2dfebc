-- The numbers that are shown of an instruction fit their form.
use Rattle.std.proofs.Common.{◌≡◌, ℕ, zero, suc, ◌+◌, ◌*◌, ◌^◌, ◌<◌, ◌&&◌, nat_lt, ℤ, Bool, true, false, ◌∷◌, arith, refl}
use Rattle.std.specs.Cmp.Derive.{both_true}
use Rattle.std.proofs.lemmas.Bool.{lt-ltb}
use Rattle.std.proofs.lemmas.Int.{ints}
use Rattle.a32_instr.specs.declared.instructions.AluOp.{AluOp}
use Rattle.a32_instr.specs.declared.instructions.AluOp.TheVariants.{And, Eor, Sub, Rsb, Add, Adc, Sbc, Rsc, Tst, Teq, Cmp, Cmn, Orr, Mov, Bic, Mvn}
use Rattle.a32_instr.specs.declared.instructions.ShiftKind.{ShiftKind}
use Rattle.a32_instr.specs.declared.instructions.ShiftKind.TheVariants.{Lsl, Lsr, Asr, Ror}
use Rattle.a32_instr.specs.declared.instructions.Operand2.{Operand2}
use Rattle.a32_instr.specs.declared.instructions.Operand2.TheVariants as operand
use Rattle.a32_instr.specs.declared.instructions.Offset.{Offset}
use Rattle.a32_instr.specs.declared.instructions.Offset.TheVariants as offset
use Rattle.a32_instr.specs.declared.instructions.Index.{Index}
use Rattle.a32_instr.specs.declared.instructions.Index.TheVariants.{Plain, Pre, Post}
use Rattle.a32_instr.specs.declared.instructions.Instr.{Instr}
use Rattle.a32_instr.specs.declared.instructions.Instr.TheVariants as instr
use Rattle.llsc_base.specs.declared.access.Size.{Size}
use Rattle.llsc_base.specs.declared.access.Size.TheVariants.{B1, B2, B4, B8}
use Rattle.a32_instr.specs.Branch.{target_of}
use Rattle.a32_instr.specs.DataProcessing.{one_if}
use Rattle.a32_forms.specs.Forms.{form_in}
use Rattle.a32_forms.specs.Fits.{fits_form}
use Rattle.a32_syntax.specs.Operands.{operands_of, two_operands, three_operands, word_operands, half_operands}
use Rattle.a32_syntax.specs.Shown.{showing_of, operand_form, operand_numbers, word_form, half_form, access_numbers, shift_number, immediate_number, is_least, minus_of}
use Rattle.a32_syntax.specs.Formed.{AreRegisters2, AreRegisters3, AreRegisters4, OperandFits, WordOffsetFits, HalfOffsetFits, PairFits}
use Rattle.a32_syntax.proofs.Meant.{number_small, nonzero, differs_Lsr, differs_Asr, differs_Ror}

-- the numbers of what is shown of an instruction fit their form
abbrev pub FitsItsForm : Instr → ℕ → Type 0
FitsItsForm instruction here =
    fits_form (form_in (operands_of (showing_of instruction here).mnemonic.operation) (showing_of instruction here).form)
    (showing_of instruction here).numbers
    ≡ true

pub register_fits : (number : ℕ) → number < 16 → nat_lt number 16 ≡ true
register_fits number h = lt-ltb number 16 h

pub number_fits : (number : ℕ) → number < 2 ^ 32 → nat_lt number (2 ^ 32) ≡ true
number_fits number h = lt-ltb number (2 ^ 32) h

pub mark_fits : (set : Bool) → nat_lt (one_if set) 2 ≡ true
mark_fits true = refl
mark_fits false = refl

minus_fits : (add : Bool) → nat_lt (minus_of add) 2 ≡ true
minus_fits true = refl
minus_fits false = refl

kind_fits : (kind : ShiftKind) → nat_lt (shift_number kind) 4 ≡ true
kind_fits Lsl = refl
kind_fits Lsr = refl
kind_fits Asr = refl
kind_fits Ror = refl

-- registers alone
pub two_fit : (x y : ℕ) → AreRegisters2 x y → (nat_lt x 16 && (nat_lt y 16 && true)) ≡ true
two_fit x y h = both_true (register_fits x h.0) (both_true (register_fits y h.1) refl)

pub three_fit : (x y z : ℕ) → AreRegisters3 x y z → (nat_lt x 16 && (nat_lt y 16 && (nat_lt z 16 && true))) ≡ true
three_fit x y z h = both_true (register_fits x h.0) (two_fit y z (h.1, h.2))

pub four_fit : (x y z w : ℕ) → AreRegisters4 x y z w → (nat_lt x 16 && (nat_lt y 16 && (nat_lt z 16 && (nat_lt w 16 && true)))) ≡ true
four_fit x y z w h = both_true (register_fits x h.0) (three_fit y z w (h.1, h.2, h.3))

imm_fits1 : (turn imm8 r : ℕ) → turn < 16 → imm8 < 256 → r < 16 → (least : Bool) → is_least turn imm8 ≡ least
    → fits_form (form_in two_operands (operand_form (operand.Imm turn imm8))) (r ∷ operand_numbers (operand.Imm turn imm8)) ≡ true
unfolding operand_form operand_numbers
imm_fits1 turn imm8 r h g small true e = rw e (both_true (register_fits r small) (both_true (number_fits (immediate_number turn imm8) (number_small imm8 turn h g)) refl))
imm_fits1 turn imm8 r h g small false e = rw e (both_true (register_fits r small) (both_true (number_fits imm8 (omega arith)) (both_true (number_fits (2 * turn) (omega arith)) refl)))

operand_fits1 : (operand : Operand2) (r : ℕ) → OperandFits operand → r < 16
    → fits_form (form_in two_operands (operand_form operand)) (r ∷ operand_numbers operand) ≡ true
unfolding operand_form operand_numbers
operand_fits1 (operand.Imm turn imm8) r fits small = imm_fits1 turn imm8 r fits.0 fits.1 small (is_least turn imm8) refl
operand_fits1 (operand.ByReg rm kind rs) r fits small = both_true (register_fits r small) (both_true (register_fits rm fits.0) (both_true (kind_fits kind) (both_true (register_fits rs fits.1) refl)))
operand_fits1 (operand.ByNum rm Lsl zero) r fits small = both_true (register_fits r small) (both_true (register_fits rm fits.0) refl)
operand_fits1 (operand.ByNum rm Lsl (suc amount)) r fits small = rw (nonzero amount) (both_true (register_fits r small) (both_true (register_fits rm fits.0) (both_true (number_fits (suc amount) (omega arith)) refl)))
operand_fits1 (operand.ByNum rm Lsr zero) r fits small = both_true (register_fits r small) (both_true (register_fits rm fits.0) refl)
operand_fits1 (operand.ByNum rm Lsr (suc amount)) r fits small = rw (nonzero amount) (both_true (register_fits r small) (both_true (register_fits rm fits.0) (both_true (number_fits (suc amount) (omega arith)) refl)))
operand_fits1 (operand.ByNum rm Asr zero) r fits small = both_true (register_fits r small) (both_true (register_fits rm fits.0) refl)
operand_fits1 (operand.ByNum rm Asr (suc amount)) r fits small = rw (nonzero amount) (both_true (register_fits r small) (both_true (register_fits rm fits.0) (both_true (number_fits (suc amount) (omega arith)) refl)))
operand_fits1 (operand.ByNum rm Ror zero) r fits small = both_true (register_fits r small) (both_true (register_fits rm fits.0) refl)
operand_fits1 (operand.ByNum rm Ror (suc amount)) r fits small = rw (nonzero amount) (both_true (register_fits r small) (both_true (register_fits rm fits.0) (both_true (number_fits (suc amount) (omega arith)) refl)))

imm_fits2 : (turn imm8 q r : ℕ) → turn < 16 → imm8 < 256 → q < 16 → r < 16 → (least : Bool) → is_least turn imm8 ≡ least
    → fits_form (form_in three_operands (operand_form (operand.Imm turn imm8))) (q ∷ r ∷ operand_numbers (operand.Imm turn imm8)) ≡ true
unfolding operand_form operand_numbers
imm_fits2 turn imm8 q r h g smaller small true e = rw e (both_true (register_fits q smaller) (both_true (register_fits r small) (both_true (number_fits (immediate_number turn imm8) (number_small imm8 turn h g)) refl)))
imm_fits2 turn imm8 q r h g smaller small false e = rw e (both_true (register_fits q smaller) (both_true (register_fits r small) (both_true (number_fits imm8 (omega arith)) (both_true (number_fits (2 * turn) (omega arith)) refl))))

operand_fits2 : (operand : Operand2) (q r : ℕ) → OperandFits operand → q < 16 → r < 16
    → fits_form (form_in three_operands (operand_form operand)) (q ∷ r ∷ operand_numbers operand) ≡ true
unfolding operand_form operand_numbers
operand_fits2 (operand.Imm turn imm8) q r fits smaller small = imm_fits2 turn imm8 q r fits.0 fits.1 smaller small (is_least turn imm8) refl
operand_fits2 (operand.ByReg rm kind rs) q r fits smaller small = both_true (register_fits q smaller) (both_true (register_fits r small) (both_true (register_fits rm fits.0) (both_true (kind_fits kind) (both_true (register_fits rs fits.1) refl))))
operand_fits2 (operand.ByNum rm Lsl zero) q r fits smaller small = both_true (register_fits q smaller) (both_true (register_fits r small) (both_true (register_fits rm fits.0) refl))
operand_fits2 (operand.ByNum rm Lsl (suc amount)) q r fits smaller small = rw (nonzero amount) (both_true (register_fits q smaller) (both_true (register_fits r small) (both_true (register_fits rm fits.0) (both_true (number_fits (suc amount) (omega arith)) refl))))
operand_fits2 (operand.ByNum rm Lsr zero) q r fits smaller small = both_true (register_fits q smaller) (both_true (register_fits r small) (both_true (register_fits rm fits.0) refl))
operand_fits2 (operand.ByNum rm Lsr (suc amount)) q r fits smaller small = rw (nonzero amount) (both_true (register_fits q smaller) (both_true (register_fits r small) (both_true (register_fits rm fits.0) (both_true (number_fits (suc amount) (omega arith)) refl))))
operand_fits2 (operand.ByNum rm Asr zero) q r fits smaller small = both_true (register_fits q smaller) (both_true (register_fits r small) (both_true (register_fits rm fits.0) refl))
operand_fits2 (operand.ByNum rm Asr (suc amount)) q r fits smaller small = rw (nonzero amount) (both_true (register_fits q smaller) (both_true (register_fits r small) (both_true (register_fits rm fits.0) (both_true (number_fits (suc amount) (omega arith)) refl))))
operand_fits2 (operand.ByNum rm Ror zero) q r fits smaller small = both_true (register_fits q smaller) (both_true (register_fits r small) (both_true (register_fits rm fits.0) refl))
operand_fits2 (operand.ByNum rm Ror (suc amount)) q r fits smaller small = rw (nonzero amount) (both_true (register_fits q smaller) (both_true (register_fits r small) (both_true (register_fits rm fits.0) (both_true (number_fits (suc amount) (omega arith)) refl))))

pub alu_fits_form : (cond : ℕ) (op : AluOp) (s : Bool) (rd rn : ℕ) (operand : Operand2) (here : ℕ) → rd < 16 → rn < 16 → OperandFits operand
    → FitsItsForm (instr.Alu cond op s rd rn operand) here
unfolding showing_of
alu_fits_form cond And s rd rn operand here h g fits = operand_fits2 operand rd rn fits h g
alu_fits_form cond Eor s rd rn operand here h g fits = operand_fits2 operand rd rn fits h g
alu_fits_form cond Sub s rd rn operand here h g fits = operand_fits2 operand rd rn fits h g
alu_fits_form cond Rsb s rd rn operand here h g fits = operand_fits2 operand rd rn fits h g
alu_fits_form cond Add s rd rn operand here h g fits = operand_fits2 operand rd rn fits h g
alu_fits_form cond Adc s rd rn operand here h g fits = operand_fits2 operand rd rn fits h g
alu_fits_form cond Sbc s rd rn operand here h g fits = operand_fits2 operand rd rn fits h g
alu_fits_form cond Rsc s rd rn operand here h g fits = operand_fits2 operand rd rn fits h g
alu_fits_form cond Tst s rd rn operand here h g fits = operand_fits1 operand rn fits g
alu_fits_form cond Teq s rd rn operand here h g fits = operand_fits1 operand rn fits g
alu_fits_form cond Cmp s rd rn operand here h g fits = operand_fits1 operand rn fits g
alu_fits_form cond Cmn s rd rn operand here h g fits = operand_fits1 operand rn fits g
alu_fits_form cond Orr s rd rn operand here h g fits = operand_fits2 operand rd rn fits h g
alu_fits_form cond Mov s rd rn operand here h g fits = operand_fits1 operand rd fits h
alu_fits_form cond Bic s rd rn operand here h g fits = operand_fits2 operand rd rn fits h g
alu_fits_form cond Mvn s rd rn operand here h g fits = operand_fits1 operand rd fits h

pub word_access_fits : (index : Index) (offset : Offset) (rt rn : ℕ) → WordOffsetFits offset → rt < 16 → rn < 16
    → fits_form (form_in word_operands (word_form index offset)) (access_numbers index offset rt rn) ≡ true
unfolding word_form access_numbers
word_access_fits Plain (offset.Imm true zero) rt rn fits h g = both_true (register_fits rt h) (both_true (register_fits rn g) refl)
word_access_fits Plain (offset.Imm true (suc imm)) rt rn fits h g = rw (nonzero imm) (both_true (register_fits rt h) (both_true (register_fits rn g) (both_true refl (both_true (number_fits (suc imm) (omega arith)) (both_true refl refl)))))
word_access_fits Plain (offset.Imm false imm) rt rn fits h g = both_true (register_fits rt h) (both_true (register_fits rn g) (both_true refl (both_true (number_fits imm (omega arith)) (both_true refl refl))))
word_access_fits Pre (offset.Imm true imm) rt rn fits h g = both_true (register_fits rt h) (both_true (register_fits rn g) (both_true refl (both_true (number_fits imm (omega arith)) (both_true refl refl))))
word_access_fits Pre (offset.Imm false imm) rt rn fits h g = both_true (register_fits rt h) (both_true (register_fits rn g) (both_true refl (both_true (number_fits imm (omega arith)) (both_true refl refl))))
word_access_fits Post (offset.Imm true imm) rt rn fits h g = both_true (register_fits rt h) (both_true (register_fits rn g) (both_true refl (both_true (number_fits imm (omega arith)) refl)))
word_access_fits Post (offset.Imm false imm) rt rn fits h g = both_true (register_fits rt h) (both_true (register_fits rn g) (both_true refl (both_true (number_fits imm (omega arith)) refl)))
word_access_fits Plain (offset.Shifted add rm Lsl zero) rt rn fits h g = both_true (register_fits rt h) (both_true (register_fits rn g) (both_true (minus_fits add) (both_true (register_fits rm fits.0) (both_true refl refl))))
word_access_fits Plain (offset.Shifted add rm Lsl (suc amount)) rt rn fits h g = rw (nonzero amount) (both_true (register_fits rt h) (both_true (register_fits rn g) (both_true (minus_fits add) (both_true (register_fits rm fits.0) (both_true refl (both_true (number_fits (suc amount) (omega arith)) (both_true refl refl)))))))
word_access_fits Plain (offset.Shifted add rm Lsr zero) rt rn fits h g = both_true (register_fits rt h) (both_true (register_fits rn g) (both_true (minus_fits add) (both_true (register_fits rm fits.0) (both_true refl (both_true refl (both_true refl refl))))))
word_access_fits Plain (offset.Shifted add rm Lsr (suc amount)) rt rn fits h g = rw (nonzero amount) (both_true (register_fits rt h) (both_true (register_fits rn g) (both_true (minus_fits add) (both_true (register_fits rm fits.0) (both_true refl (both_true (number_fits (suc amount) (omega arith)) (both_true refl refl)))))))
word_access_fits Plain (offset.Shifted add rm Asr zero) rt rn fits h g = both_true (register_fits rt h) (both_true (register_fits rn g) (both_true (minus_fits add) (both_true (register_fits rm fits.0) (both_true refl (both_true refl (both_true refl refl))))))
word_access_fits Plain (offset.Shifted add rm Asr (suc amount)) rt rn fits h g = rw (nonzero amount) (both_true (register_fits rt h) (both_true (register_fits rn g) (both_true (minus_fits add) (both_true (register_fits rm fits.0) (both_true refl (both_true (number_fits (suc amount) (omega arith)) (both_true refl refl)))))))
word_access_fits Plain (offset.Shifted add rm Ror zero) rt rn fits h g = both_true (register_fits rt h) (both_true (register_fits rn g) (both_true (minus_fits add) (both_true (register_fits rm fits.0) (both_true refl refl))))
word_access_fits Plain (offset.Shifted add rm Ror (suc amount)) rt rn fits h g = rw (nonzero amount) (both_true (register_fits rt h) (both_true (register_fits rn g) (both_true (minus_fits add) (both_true (register_fits rm fits.0) (both_true refl (both_true (number_fits (suc amount) (omega arith)) (both_true refl refl)))))))
word_access_fits Pre (offset.Shifted add rm Lsl zero) rt rn fits h g = both_true (register_fits rt h) (both_true (register_fits rn g) (both_true (minus_fits add) (both_true (register_fits rm fits.0) (both_true refl refl))))
word_access_fits Pre (offset.Shifted add rm Lsl (suc amount)) rt rn fits h g = rw (nonzero amount) (both_true (register_fits rt h) (both_true (register_fits rn g) (both_true (minus_fits add) (both_true (register_fits rm fits.0) (both_true refl (both_true (number_fits (suc amount) (omega arith)) (both_true refl refl)))))))
word_access_fits Pre (offset.Shifted add rm Lsr zero) rt rn fits h g = both_true (register_fits rt h) (both_true (register_fits rn g) (both_true (minus_fits add) (both_true (register_fits rm fits.0) (both_true refl (both_true refl (both_true refl refl))))))
word_access_fits Pre (offset.Shifted add rm Lsr (suc amount)) rt rn fits h g = rw (nonzero amount) (both_true (register_fits rt h) (both_true (register_fits rn g) (both_true (minus_fits add) (both_true (register_fits rm fits.0) (both_true refl (both_true (number_fits (suc amount) (omega arith)) (both_true refl refl)))))))
word_access_fits Pre (offset.Shifted add rm Asr zero) rt rn fits h g = both_true (register_fits rt h) (both_true (register_fits rn g) (both_true (minus_fits add) (both_true (register_fits rm fits.0) (both_true refl (both_true refl (both_true refl refl))))))
word_access_fits Pre (offset.Shifted add rm Asr (suc amount)) rt rn fits h g = rw (nonzero amount) (both_true (register_fits rt h) (both_true (register_fits rn g) (both_true (minus_fits add) (both_true (register_fits rm fits.0) (both_true refl (both_true (number_fits (suc amount) (omega arith)) (both_true refl refl)))))))
word_access_fits Pre (offset.Shifted add rm Ror zero) rt rn fits h g = both_true (register_fits rt h) (both_true (register_fits rn g) (both_true (minus_fits add) (both_true (register_fits rm fits.0) (both_true refl refl))))
word_access_fits Pre (offset.Shifted add rm Ror (suc amount)) rt rn fits h g = rw (nonzero amount) (both_true (register_fits rt h) (both_true (register_fits rn g) (both_true (minus_fits add) (both_true (register_fits rm fits.0) (both_true refl (both_true (number_fits (suc amount) (omega arith)) (both_true refl refl)))))))
word_access_fits Post (offset.Shifted add rm Lsl zero) rt rn fits h g = both_true (register_fits rt h) (both_true (register_fits rn g) (both_true (minus_fits add) (both_true (register_fits rm fits.0) refl)))
word_access_fits Post (offset.Shifted add rm Lsl (suc amount)) rt rn fits h g = rw (nonzero amount) (both_true (register_fits rt h) (both_true (register_fits rn g) (both_true (minus_fits add) (both_true (register_fits rm fits.0) (both_true refl (both_true (number_fits (suc amount) (omega arith)) refl))))))
word_access_fits Post (offset.Shifted add rm Lsr zero) rt rn fits h g = both_true (register_fits rt h) (both_true (register_fits rn g) (both_true (minus_fits add) (both_true (register_fits rm fits.0) (both_true refl (both_true refl refl)))))
word_access_fits Post (offset.Shifted add rm Lsr (suc amount)) rt rn fits h g = rw (nonzero amount) (both_true (register_fits rt h) (both_true (register_fits rn g) (both_true (minus_fits add) (both_true (register_fits rm fits.0) (both_true refl (both_true (number_fits (suc amount) (omega arith)) refl))))))
word_access_fits Post (offset.Shifted add rm Asr zero) rt rn fits h g = both_true (register_fits rt h) (both_true (register_fits rn g) (both_true (minus_fits add) (both_true (register_fits rm fits.0) (both_true refl (both_true refl refl)))))
word_access_fits Post (offset.Shifted add rm Asr (suc amount)) rt rn fits h g = rw (nonzero amount) (both_true (register_fits rt h) (both_true (register_fits rn g) (both_true (minus_fits add) (both_true (register_fits rm fits.0) (both_true refl (both_true (number_fits (suc amount) (omega arith)) refl))))))
word_access_fits Post (offset.Shifted add rm Ror zero) rt rn fits h g = both_true (register_fits rt h) (both_true (register_fits rn g) (both_true (minus_fits add) (both_true (register_fits rm fits.0) refl)))
word_access_fits Post (offset.Shifted add rm Ror (suc amount)) rt rn fits h g = rw (nonzero amount) (both_true (register_fits rt h) (both_true (register_fits rn g) (both_true (minus_fits add) (both_true (register_fits rm fits.0) (both_true refl (both_true (number_fits (suc amount) (omega arith)) refl))))))

pub half_access_fits : (index : Index) (offset : Offset) (rt rn : ℕ) → HalfOffsetFits offset → rt < 16 → rn < 16
    → fits_form (form_in half_operands (half_form index offset)) (access_numbers index offset rt rn) ≡ true
unfolding half_form access_numbers
half_access_fits Plain (offset.Imm true zero) rt rn fits h g = both_true (register_fits rt h) (both_true (register_fits rn g) refl)
half_access_fits Plain (offset.Imm true (suc imm)) rt rn fits h g = rw (nonzero imm) (both_true (register_fits rt h) (both_true (register_fits rn g) (both_true refl (both_true (number_fits (suc imm) (omega arith)) (both_true refl refl)))))
half_access_fits Plain (offset.Imm false imm) rt rn fits h g = both_true (register_fits rt h) (both_true (register_fits rn g) (both_true refl (both_true (number_fits imm (omega arith)) (both_true refl refl))))
half_access_fits Pre (offset.Imm true imm) rt rn fits h g = both_true (register_fits rt h) (both_true (register_fits rn g) (both_true refl (both_true (number_fits imm (omega arith)) (both_true refl refl))))
half_access_fits Pre (offset.Imm false imm) rt rn fits h g = both_true (register_fits rt h) (both_true (register_fits rn g) (both_true refl (both_true (number_fits imm (omega arith)) (both_true refl refl))))
half_access_fits Post (offset.Imm true imm) rt rn fits h g = both_true (register_fits rt h) (both_true (register_fits rn g) (both_true refl (both_true (number_fits imm (omega arith)) refl)))
half_access_fits Post (offset.Imm false imm) rt rn fits h g = both_true (register_fits rt h) (both_true (register_fits rn g) (both_true refl (both_true (number_fits imm (omega arith)) refl)))
half_access_fits Plain (offset.Shifted add rm Lsl zero) rt rn fits h g = both_true (register_fits rt h) (both_true (register_fits rn g) (both_true (minus_fits add) (both_true (register_fits rm fits.0) (both_true refl refl))))
half_access_fits Plain (offset.Shifted add rm Lsl (suc amount)) rt rn fits h g = absurd (omega arith)
half_access_fits Plain (offset.Shifted add rm Lsr amount) rt rn fits h g = absurd (differs_Lsr fits.1)
half_access_fits Plain (offset.Shifted add rm Asr amount) rt rn fits h g = absurd (differs_Asr fits.1)
half_access_fits Plain (offset.Shifted add rm Ror amount) rt rn fits h g = absurd (differs_Ror fits.1)
half_access_fits Pre (offset.Shifted add rm Lsl zero) rt rn fits h g = both_true (register_fits rt h) (both_true (register_fits rn g) (both_true (minus_fits add) (both_true (register_fits rm fits.0) (both_true refl refl))))
half_access_fits Pre (offset.Shifted add rm Lsl (suc amount)) rt rn fits h g = absurd (omega arith)
half_access_fits Pre (offset.Shifted add rm Lsr amount) rt rn fits h g = absurd (differs_Lsr fits.1)
half_access_fits Pre (offset.Shifted add rm Asr amount) rt rn fits h g = absurd (differs_Asr fits.1)
half_access_fits Pre (offset.Shifted add rm Ror amount) rt rn fits h g = absurd (differs_Ror fits.1)
half_access_fits Post (offset.Shifted add rm Lsl zero) rt rn fits h g = both_true (register_fits rt h) (both_true (register_fits rn g) (both_true (minus_fits add) (both_true (register_fits rm fits.0) refl)))
half_access_fits Post (offset.Shifted add rm Lsl (suc amount)) rt rn fits h g = absurd (omega arith)
half_access_fits Post (offset.Shifted add rm Lsr amount) rt rn fits h g = absurd (differs_Lsr fits.1)
half_access_fits Post (offset.Shifted add rm Asr amount) rt rn fits h g = absurd (differs_Asr fits.1)
half_access_fits Post (offset.Shifted add rm Ror amount) rt rn fits h g = absurd (differs_Ror fits.1)

pub extend_fits_form : (cond : ℕ) (unsigned half : Bool) (rd rm turn here : ℕ) → turn < 4 → rd < 16 → rm < 16 → FitsItsForm (instr.Extend cond unsigned half rd rm turn) here
unfolding showing_of
extend_fits_form cond unsigned half rd rm zero here small h g = both_true (register_fits rd h) (both_true (register_fits rm g) refl)
extend_fits_form cond unsigned half rd rm (suc turn) here small h g = rw (nonzero turn) (both_true (register_fits rd h) (both_true (register_fits rm g) (both_true (number_fits (8 * suc turn) (omega arith)) refl)))

pub load_exclusive_fits : (cond : ℕ) (size : Size) (rn rt here : ℕ) → rn < 16 → PairFits size rt → FitsItsForm (instr.LoadEx cond size rn rt) here
unfolding showing_of
load_exclusive_fits cond B1 rn rt here h g = both_true (register_fits rt g) (both_true (register_fits rn h) refl)
load_exclusive_fits cond B2 rn rt here h g = both_true (register_fits rt g) (both_true (register_fits rn h) refl)
load_exclusive_fits cond B4 rn rt here h g = both_true (register_fits rt g) (both_true (register_fits rn h) refl)
load_exclusive_fits cond B8 rn rt here h g = both_true (register_fits rt (omega arith)) (both_true (register_fits (rt + 1) g) (both_true (register_fits rn h) refl))

pub store_exclusive_fits : (cond : ℕ) (size : Size) (rn rd rt here : ℕ) → rn < 16 → rd < 16 → PairFits size rt → FitsItsForm (instr.StoreEx cond size rn rd rt) here
unfolding showing_of
store_exclusive_fits cond B1 rn rd rt here h k g = both_true (register_fits rd k) (both_true (register_fits rt g) (both_true (register_fits rn h) refl))
store_exclusive_fits cond B2 rn rd rt here h k g = both_true (register_fits rd k) (both_true (register_fits rt g) (both_true (register_fits rn h) refl))
store_exclusive_fits cond B4 rn rd rt here h k g = both_true (register_fits rd k) (both_true (register_fits rt g) (both_true (register_fits rn h) refl))
store_exclusive_fits cond B8 rn rd rt here h k g = both_true (register_fits rd k) (both_true (register_fits rt (omega arith)) (both_true (register_fits (rt + 1) g) (both_true (register_fits rn h) refl)))

pub target_small : (here : ℕ) (words : ℤ) → target_of here words < 2 ^ 32
unfolding target_of
target_small here words = grind (arith, ints)
