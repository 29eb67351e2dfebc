-- The forms and the mnemonics that are shown of instructions.
use Rattle.std.proofs.Common.{◌≡◌, ℕ, zero, suc, ◌+◌, ◌<◌, ◌≤◌, ◌==◌, ◌&&◌, ◌||◌, not, nat_lt, if◌then◌else◌, IsTrue, Bool, true, false, arith, refl}
use Rattle.std.proofs.lemmas.Bool.{lt-ltb}
use Rattle.a32_instr.specs.declared.instructions.ShiftKind.TheVariants.{Lsl}
use Rattle.a32_instr.specs.declared.instructions.Operand2.{Operand2}
use Rattle.a32_instr.specs.declared.instructions.Operand2.TheVariants as operand
use Rattle.a32_instr.specs.declared.instructions.Offset.{Offset}
use Rattle.a32_instr.specs.declared.instructions.Offset.TheVariants as offset
use Rattle.a32_instr.specs.declared.instructions.Index.{Index}
use Rattle.a32_instr.specs.declared.instructions.Instr.{Instr}
use Rattle.a32_instr.specs.declared.instructions.Instr.TheVariants as instr
use Rattle.llsc_base.specs.declared.access.Size.{Size}
use Rattle.llsc_base.specs.declared.access.Size.TheVariants.{B1, B2, B4, B8}
use Rattle.a32_forms.specs.Apart.{stands}
use Rattle.a32_syntax.specs.declared.operations.Operation.TheVariants as operation
use Rattle.a32_syntax.specs.Mnemonics.{is_mnemonic}
use Rattle.a32_syntax.specs.Operands.{operands_of, two_operands, three_operands, word_operands, half_operands}
use Rattle.a32_syntax.specs.Shown.{showing_of, operand_form, offset_form, word_form, half_form, is_least, is_unshifted, is_through_carry, is_base_alone, is_post}
use Rattle.a32_syntax.specs.Formed.{HalfOffsetFits}

-- The forms that are shown stand: no earlier form takes what they show.

-- a number that a choice between two gives
one_of : (test : Bool) (x y most : ℕ) → x ≤ most → y ≤ most → (if test then x else y) ≤ most
one_of true x y most h g = h
one_of false x y most h g = g

pub operand_form_below : (operand : Operand2) → operand_form operand ≤ 5
unfolding operand_form
operand_form_below (operand.Imm turn imm8) = one_of (is_least turn imm8) 0 1 5 (omega arith) (omega arith)
operand_form_below (operand.ByNum rm kind amount) =
    one_of (is_unshifted kind amount) 2 (if is_through_carry kind amount then 4 else 3) 5 (omega arith)
    (one_of (is_through_carry kind amount) 4 3 5 (omega arith) (omega arith))
operand_form_below (operand.ByReg rm kind rs) = omega arith

offset_form_below : (offset : Offset) → offset_form offset ≤ 4
offset_form_below (offset.Imm add imm) = omega arith
offset_form_below (offset.Shifted add rm kind amount) =
    one_of (is_unshifted kind amount) 2 (if is_through_carry kind amount then 4 else 3) 4 (omega arith)
    (one_of (is_through_carry kind amount) 4 3 4 (omega arith) (omega arith))

pub word_form_below : (index : Index) (offset : Offset) → word_form index offset ≤ 8
unfolding word_form
word_form_below index offset =
    let below : offset_form offset ≤ 4 = offset_form_below offset in
    one_of (is_base_alone index offset) 0 (if is_post index then offset_form offset + 4 else offset_form offset) 8 (omega arith)
    (one_of (is_post index) (offset_form offset + 4) (offset_form offset) 8 (omega arith) (omega arith))

-- a halfword's offset is a number or a register
pub half_form_below : (index : Index) (offset : Offset) → HalfOffsetFits offset → half_form index offset ≤ 4
unfolding half_form
half_form_below index (offset.Imm add imm) fits =
    one_of (is_base_alone index (offset.Imm add imm)) 0 (if is_post index then 3 else 1) 4 (omega arith) (one_of (is_post index) 3 1 4 (omega arith) (omega arith))
half_form_below index (offset.Shifted add rm kind amount) fits =
    rw (fits.1, fits.2)
    (one_of (is_base_alone index (offset.Shifted add rm Lsl 0)) 0 (if is_post index then 4 else 2) 4 (omega arith) (one_of (is_post index) 4 2 4 (omega arith) (omega arith)))

three_stands : (form : ℕ) → form ≤ 5 → stands three_operands form ≡ true
three_stands zero h = refl
three_stands (suc zero) h = refl
three_stands (suc (suc zero)) h = refl
three_stands (suc (suc (suc zero))) h = refl
three_stands (suc (suc (suc (suc zero)))) h = refl
three_stands (suc (suc (suc (suc (suc zero))))) h = refl
three_stands (suc (suc (suc (suc (suc (suc form)))))) h = absurd (omega arith)

two_stands : (form : ℕ) → form ≤ 5 → stands two_operands form ≡ true
two_stands zero h = refl
two_stands (suc zero) h = refl
two_stands (suc (suc zero)) h = refl
two_stands (suc (suc (suc zero))) h = refl
two_stands (suc (suc (suc (suc zero)))) h = refl
two_stands (suc (suc (suc (suc (suc zero))))) h = refl
two_stands (suc (suc (suc (suc (suc (suc form)))))) h = absurd (omega arith)

pub word_stands : (form : ℕ) → form ≤ 8 → stands word_operands form ≡ true
word_stands zero h = refl
word_stands (suc zero) h = refl
word_stands (suc (suc zero)) h = refl
word_stands (suc (suc (suc zero))) h = refl
word_stands (suc (suc (suc (suc zero)))) h = refl
word_stands (suc (suc (suc (suc (suc zero))))) h = refl
word_stands (suc (suc (suc (suc (suc (suc zero)))))) h = refl
word_stands (suc (suc (suc (suc (suc (suc (suc zero))))))) h = refl
word_stands (suc (suc (suc (suc (suc (suc (suc (suc zero)))))))) h = refl
word_stands (suc (suc (suc (suc (suc (suc (suc (suc (suc form))))))))) h = absurd (omega arith)

pub half_stands : (form : ℕ) → form ≤ 4 → stands half_operands form ≡ true
half_stands zero h = refl
half_stands (suc zero) h = refl
half_stands (suc (suc zero)) h = refl
half_stands (suc (suc (suc zero))) h = refl
half_stands (suc (suc (suc (suc zero)))) h = refl
half_stands (suc (suc (suc (suc (suc form))))) h = absurd (omega arith)

pub alu_stands : (few : Bool) (form : ℕ) → form ≤ 5 → stands (if few then two_operands else three_operands) form ≡ true
alu_stands true form h = two_stands form h
alu_stands false form h = three_stands form h

-- the form that is shown of an instruction stands
abbrev pub Stands : Instr → ℕ → Type 0
Stands instruction here =
    stands (operands_of (showing_of instruction here).mnemonic.operation) (showing_of instruction here).form ≡ true

pub extend_stands : (cond : ℕ) (unsigned half : Bool) (rd rm turn here : ℕ) → (alone : Bool) → (turn == 0) ≡ alone → Stands (instr.Extend cond unsigned half rd rm turn) here
unfolding showing_of
extend_stands cond unsigned half rd rm turn here true e = rw e refl
extend_stands cond unsigned half rd rm turn here false e = rw e refl

pub load_exclusive_stands : (size : Size) → stands (operands_of (operation.LoadEx size)) 0 ≡ true
load_exclusive_stands B1 = refl
load_exclusive_stands B2 = refl
load_exclusive_stands B4 = refl
load_exclusive_stands B8 = refl

pub store_exclusive_stands : (size : Size) → stands (operands_of (operation.StoreEx size)) 0 ≡ true
store_exclusive_stands B1 = refl
store_exclusive_stands B2 = refl
store_exclusive_stands B4 = refl
store_exclusive_stands B8 = refl

-- The mnemonics that are shown are mnemonics.

pub below_15 : (cond : ℕ) → cond < 15 → nat_lt cond 15 ≡ true
below_15 cond h = lt-ltb cond 15 h

-- with no flags that it may not set
pub alu_flags : (compare s : Bool) → (not compare || not (s && not compare)) ≡ true
alu_flags true true = refl
alu_flags true false = refl
alu_flags false s = refl

pub extend_mnemonic : (cond : ℕ) (unsigned half : Bool) (rd rm turn here : ℕ) → cond < 15 → (alone : Bool) → (turn == 0) ≡ alone
    → IsTrue (is_mnemonic (showing_of (instr.Extend cond unsigned half rd rm turn) here).mnemonic)
unfolding showing_of
extend_mnemonic cond unsigned half rd rm turn here h true e = rw e (below_15 cond h)
extend_mnemonic cond unsigned half rd rm turn here h false e = rw e (below_15 cond h)
