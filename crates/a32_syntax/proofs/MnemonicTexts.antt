-- Mnemonics and their texts.
use Rattle.std.proofs.Common.{◌≡◌, ℕ, ◌<◌, ◌==◌, ◌||◌, not, nat_lt, Bool, true, false, if◌then◌else◌, IsTrue, map, slice_index_or, Option, Some, None, arith, refl, ◌∙◌, sym, ap, subst}
use Rattle.std.specs.List.{range_with_len}
use Rattle.std.proofs.lemmas.Bool.{both_ways, and_parts, eqb-true, ltb-true}
use Rattle.std.proofs.lemmas.List.FromFn.{get_or-map-range_with_len}
use Rattle.a32_instr.specs.declared.instructions.AluOp.TheVariants.{And, Tst, Teq, Cmp, Cmn}
use Rattle.a32_instr.specs.declared.instructions.LongKind.TheVariants.{Umull}
use Rattle.a32_instr.specs.declared.instructions.HalfKind.TheVariants.{Strh}
use Rattle.a32_instr.specs.declared.instructions.BarrierKind.TheVariants.{Dsb}
use Rattle.llsc_base.specs.declared.access.Size.TheVariants.{B1}
use Rattle.a32_forms.specs.Names.{place_from}
use Rattle.a32_syntax.specs.declared.operations.Operation.{Operation}
use Rattle.a32_syntax.specs.declared.operations.Operation.TheVariants.{Alu, Mul, Mla, Long, Extend, Word, Half, Block, Branch, BranchReg, LoadEx, StoreEx, Clrex, Barrier}
use Rattle.a32_syntax.specs.declared.operations.Mnemonic.{Mnemonic}
use Rattle.a32_syntax.specs.Mnemonics.{mnemonic, mnemonic_text, mnemonic_of, is_mnemonic, may_set_flags, may_have_condition, read_among, as_operation, with_flags}

-- what the text of a mnemonic is read as
abbrev again : Operation → Bool → ℕ → Option Mnemonic
again operation set_flags cond = mnemonic_of (mnemonic_text (mnemonic operation set_flags cond))

-- with every condition it is read as that mnemonic
abbrev AreRead : Operation → Bool → Type 0
AreRead operation set_flags =
    map (again operation set_flags) (range_with_len 0 15) ≡ map (λ cond. Some (mnemonic operation set_flags cond)) (range_with_len 0 15)

-- Each operation computes: without flags, with flags where there may be an `s`, and those without a condition.

plain_read : (operation : Operation) → IsTrue (may_have_condition operation) → AreRead operation false
unfolding read_among as_operation with_flags place_from
plain_read Clrex h = absurd (both_ways false refl h)
plain_read (Barrier kind) h = absurd (both_ways false refl h)
plain_read (Alu And) h = refl
plain_read (Long Umull) h = refl
plain_read (Extend false false) h = refl
plain_read (Extend true false) h = refl
plain_read (Word false false) h = refl
plain_read (Word true false) h = refl
plain_read (Half Strh) h = refl
plain_read (Block false false false) h = refl
plain_read (Block false true false) h = refl
plain_read (Block true false false) h = refl
plain_read (Block true true false) h = refl
plain_read (Branch false) h = refl
plain_read (BranchReg false) h = refl
plain_read (LoadEx B1) h = refl
plain_read (StoreEx B1) h = refl
plain_read operation h = refl

flags_read : (operation : Operation) → IsTrue (may_set_flags operation) → AreRead operation true
unfolding read_among as_operation with_flags place_from
flags_read (Alu Tst) h = absurd (both_ways false refl h)
flags_read (Alu Teq) h = absurd (both_ways false refl h)
flags_read (Alu Cmp) h = absurd (both_ways false refl h)
flags_read (Alu Cmn) h = absurd (both_ways false refl h)
flags_read (Alu op) h = refl
flags_read Mul h = refl
flags_read Mla h = refl
flags_read (Long Umull) h = refl
flags_read (Long kind) h = refl
flags_read operation h = absurd (both_ways false refl h)

bare_read : (operation : Operation) → may_have_condition operation ≡ false → again operation false 14 ≡ Some (mnemonic operation false 14)
unfolding read_among as_operation with_flags place_from
bare_read Clrex h = refl
bare_read (Barrier Dsb) h = refl
bare_read (Barrier kind) h = refl
bare_read operation h = absurd (both_ways true h refl)

-- one of the conditions
one_of : (f g : ℕ → Option Mnemonic) → map f (range_with_len 0 15) ≡ map g (range_with_len 0 15) → (cond : ℕ) → cond < 15 → f cond ≡ g cond
one_of f g e cond h =
    sym (get_or-map-range_with_len f 0 15 cond cond None h (omega arith))
    ∙ (ap (λ answers. slice_index_or answers cond None) e
    ∙ get_or-map-range_with_len g 0 15 cond cond None h (omega arith))

abbrev IsReadAgain : Mnemonic → Type 0
IsReadAgain m = mnemonic_of (mnemonic_text m) ≡ Some m

or_false : (b : Bool) → (b || false) ≡ true → b ≡ true
or_false true e = refl
or_false false e = e

conditional_read : (operation : Operation) (set_flags : Bool) (cond : ℕ) → IsTrue (may_set_flags operation || not set_flags)
    → IsTrue (may_have_condition operation) → cond < 15 → IsReadAgain (mnemonic operation set_flags cond)
conditional_read operation false cond f h less =
    one_of (again operation false) (λ cond. Some (mnemonic operation false cond)) (plain_read operation h) cond less
conditional_read operation true cond f h less =
    one_of (again operation true) (λ cond. Some (mnemonic operation true cond)) (flags_read operation (or_false (may_set_flags operation) f)) cond less

-- an operation without a condition has no `s` either
no_flags : (operation : Operation) → may_have_condition operation ≡ false → may_set_flags operation ≡ false
no_flags Clrex h = refl
no_flags (Barrier kind) h = refl
no_flags operation h = absurd (both_ways true h refl)

unconditional_read : (operation : Operation) (set_flags : Bool) (cond : ℕ) → IsTrue (may_set_flags operation || not set_flags)
    → may_have_condition operation ≡ false → cond ≡ 14 → IsReadAgain (mnemonic operation set_flags cond)
unconditional_read operation false cond f h e = subst (λ cond. IsReadAgain (mnemonic operation false cond)) (sym e) (bare_read operation h)
unconditional_read operation true cond f h e =
    absurd (both_ways (may_set_flags operation) (no_flags operation h) (or_false (may_set_flags operation) f))

by_condition : (operation : Operation) (set_flags : Bool) (cond : ℕ) (b : Bool) → b ≡ may_have_condition operation
    → IsTrue (may_set_flags operation || not set_flags) → IsTrue (if b then nat_lt cond 15 else cond == 14)
    → IsReadAgain (mnemonic operation set_flags cond)
by_condition operation set_flags cond true h f c = conditional_read operation set_flags cond f (sym h) (ltb-true cond 15 c)
by_condition operation set_flags cond false h f c = unconditional_read operation set_flags cond f (sym h) (eqb-true cond 14 c)

-- the text of a mnemonic is read as that mnemonic
pub mnemonic_read_again : (m : Mnemonic) → IsTrue (is_mnemonic m) → mnemonic_of (mnemonic_text m) ≡ Some m
mnemonic_read_again m h =
    let both : IsTrue (may_set_flags m.operation || not m.set_flags)
    × IsTrue (if may_have_condition m.operation then nat_lt m.cond 15 else m.cond == 14) =
    and_parts (may_set_flags m.operation || not m.set_flags) (if may_have_condition m.operation then nat_lt m.cond 15 else m.cond == 14) h in
    by_condition m.operation m.set_flags m.cond (may_have_condition m.operation) refl both.0 both.1

-- two mnemonics of one text are one
pub one_text : (m other : Mnemonic) → IsTrue (is_mnemonic m) → IsTrue (is_mnemonic other) → mnemonic_text m ≡ mnemonic_text other → m ≡ other
one_text m other h g e =
    let both : Some m ≡ Some other = sym (mnemonic_read_again m h) ∙ (ap mnemonic_of e ∙ mnemonic_read_again other g) in
    cc
