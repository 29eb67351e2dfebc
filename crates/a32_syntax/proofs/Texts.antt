-- How long the parts of an instruction's text are at most, and where its mnemonic ends.
use Rattle.std.proofs.Common.{◌≡◌, ℕ, zero, suc, ◌≤◌, nat_le, IsTrue, Bool, true, false, List, [], ◌∷◌, ◌++◌, length, slice_index_or, arith, refl}
use Rattle.std.specs.List.{list_all}
use Rattle.std.proofs.lemmas.Bool.{and_parts, and_from, leb-true}
use Rattle.a32_instr.specs.declared.instructions.AluOp.TheVariants.{And}
use Rattle.a32_instr.specs.declared.instructions.LongKind.TheVariants.{Umull}
use Rattle.a32_instr.specs.declared.instructions.HalfKind.TheVariants.{Strh}
use Rattle.a32_instr.specs.declared.instructions.BarrierKind.TheVariants.{Dsb}
use Rattle.llsc_base.specs.declared.access.Size.TheVariants.{B1}
use Rattle.a32_forms.specs.Text.{is_wordy, is_name, begins_wordy, front_word, after_word}
use Rattle.a32_forms.specs.Names.{names_in}
use Rattle.a32_forms.specs.Forms.{forms_in, form_in}
use Rattle.a32_forms.specs.Fits.{form_room}
use Rattle.a32_syntax.specs.declared.operations.Operation.{Operation}
use Rattle.a32_syntax.specs.declared.operations.Operation.TheVariants.{Alu, Long, Extend, Word, Half, Block, Branch, BranchReg, LoadEx, StoreEx, Barrier}
use Rattle.a32_syntax.specs.Mnemonics.{base_of, flags_text, condition_name, conditions, mnemonic_text}
use Rattle.a32_syntax.specs.declared.operations.Mnemonic.{Mnemonic}
use Rattle.a32_syntax.specs.Shown.{operands_text}
use Rattle.a32_syntax.specs.Operands.{operands_of}

-- each of a list passes a test, and so does what stands at a place or for a missing one
pub passes_at : (test : List ℕ → Bool) (texts : List (List ℕ)) (at : ℕ) → IsTrue (test []) → IsTrue (list_all test texts) → IsTrue (test (slice_index_or texts at []))
passes_at test [] at none all = none
passes_at test (text ∷ texts) zero none all = (and_parts (test text) (list_all test texts) all).0
passes_at test (text ∷ texts) (suc at) none all = passes_at test texts at none (and_parts (test text) (list_all test texts) all).1

pub base_short : (operation : Operation) → length (base_of operation) ≤ 6
base_short (Alu And) = omega arith
base_short (Long Umull) = omega arith
base_short (Extend false false) = omega arith
base_short (Extend true false) = omega arith
base_short (Word false false) = omega arith
base_short (Word true false) = omega arith
base_short (Half Strh) = omega arith
base_short (Block false false false) = omega arith
base_short (Block false true false) = omega arith
base_short (Block true false false) = omega arith
base_short (Block true true false) = omega arith
base_short (Branch false) = omega arith
base_short (BranchReg false) = omega arith
base_short (LoadEx B1) = omega arith
base_short (StoreEx B1) = omega arith
base_short (Barrier Dsb) = omega arith
base_short operation = omega arith

-- the longest of the forms of an operation
forms_short : (operation : Operation) → IsTrue (list_all (λ form. nat_le (form_room form) 73) (forms_in (operands_of operation)))
forms_short (Alu And) = refl
forms_short (Long Umull) = refl
forms_short (Extend false false) = refl
forms_short (Extend true false) = refl
forms_short (Word false false) = refl
forms_short (Word true false) = refl
forms_short (Half Strh) = refl
forms_short (Block false false false) = refl
forms_short (Block false true false) = refl
forms_short (Block true false false) = refl
forms_short (Block true true false) = refl
forms_short (Branch false) = refl
forms_short (BranchReg false) = refl
forms_short (LoadEx B1) = refl
forms_short (StoreEx B1) = refl
forms_short (Barrier Dsb) = refl
forms_short operation = refl

pub form_short : (operation : Operation) (form : ℕ) → form_room (form_in (operands_of operation) form) ≤ 73
form_short operation form =
    leb-true (form_room (form_in (operands_of operation) form)) 73
    (passes_at (λ form. nat_le (form_room form) 73) (forms_in (operands_of operation)) form refl (forms_short operation))

-- A mnemonic is one word.

wordy_join : (x y : List ℕ) → IsTrue (list_all is_wordy x) → IsTrue (list_all is_wordy y) → IsTrue (list_all is_wordy (x ++ y))
wordy_join [] y h g = g
wordy_join (code ∷ x) y h g =
    let parts : IsTrue (is_wordy code) × IsTrue (list_all is_wordy x) = and_parts (is_wordy code) (list_all is_wordy x) h in
    and_from (is_wordy code) (list_all is_wordy (x ++ y)) parts.0 (wordy_join x y parts.1 g)

base_wordy : (operation : Operation) → IsTrue (list_all is_wordy (base_of operation))
base_wordy (Alu And) = refl
base_wordy (Long Umull) = refl
base_wordy (Extend false false) = refl
base_wordy (Extend true false) = refl
base_wordy (Word false false) = refl
base_wordy (Word true false) = refl
base_wordy (Half Strh) = refl
base_wordy (Block false false false) = refl
base_wordy (Block false true false) = refl
base_wordy (Block true false false) = refl
base_wordy (Block true true false) = refl
base_wordy (Branch false) = refl
base_wordy (BranchReg false) = refl
base_wordy (LoadEx B1) = refl
base_wordy (StoreEx B1) = refl
base_wordy (Barrier Dsb) = refl
base_wordy operation = refl

flags_wordy : (set_flags : Bool) → IsTrue (list_all is_wordy (flags_text set_flags))
flags_wordy true = refl
flags_wordy false = refl

condition_wordy : (cond : ℕ) → IsTrue (list_all is_wordy (condition_name cond))
condition_wordy cond = passes_at (λ text. list_all is_wordy text) (names_in conditions) cond refl refl

pub mnemonic_wordy : (mnemonic : Mnemonic) → IsTrue (list_all is_wordy (mnemonic_text mnemonic))
mnemonic_wordy mnemonic =
    wordy_join (base_of mnemonic.operation) (flags_text mnemonic.set_flags ++ condition_name mnemonic.cond) (base_wordy mnemonic.operation)
    (wordy_join (flags_text mnemonic.set_flags) (condition_name mnemonic.cond) (flags_wordy mnemonic.set_flags) (condition_wordy mnemonic.cond))

-- a word ends where no part of a word follows
word_ends : (rest : List ℕ) → begins_wordy rest ≡ false → (front_word rest ≡ []) × (after_word rest ≡ rest)
unfolding front_word after_word
word_ends [] h = (refl, refl)
word_ends (code ∷ rest) h = rw h (refl, refl)

front_is : (word rest : List ℕ) → IsTrue (list_all is_wordy word) → begins_wordy rest ≡ false → (front_word (word ++ rest) ≡ word) × (after_word (word ++ rest) ≡ rest)
unfolding front_word after_word
front_is [] rest h ends = word_ends rest ends
front_is (code ∷ word) rest h ends =
    let parts : IsTrue (is_wordy code) × IsTrue (list_all is_wordy word) = and_parts (is_wordy code) (list_all is_wordy word) h in
    let further : (front_word (word ++ rest) ≡ word) × (after_word (word ++ rest) ≡ rest) = front_is word rest parts.1 ends in
    rw (parts.0, further.0, further.1) (refl, refl)

operands_apart : (form numbers : List ℕ) → begins_wordy (operands_text form numbers) ≡ false
operands_apart [] numbers = refl
operands_apart (sign ∷ form) numbers = refl

-- what stands behind a mnemonic are its operands
pub mnemonic_front : (mnemonic : Mnemonic) (form numbers : List ℕ) → front_word (mnemonic_text mnemonic ++ operands_text form numbers) ≡ mnemonic_text mnemonic
mnemonic_front mnemonic form numbers = (front_is (mnemonic_text mnemonic) (operands_text form numbers) (mnemonic_wordy mnemonic) (operands_apart form numbers)).0

pub operands_behind : (mnemonic : Mnemonic) (form numbers : List ℕ) → after_word (mnemonic_text mnemonic ++ operands_text form numbers) ≡ operands_text form numbers
operands_behind mnemonic form numbers = (front_is (mnemonic_text mnemonic) (operands_text form numbers) (mnemonic_wordy mnemonic) (operands_apart form numbers)).1

-- a mnemonic begins with a letter
base_is_name : (operation : Operation) (rest : List ℕ) → is_name (base_of operation ++ rest) ≡ true
base_is_name (Alu And) rest = refl
base_is_name (Long Umull) rest = refl
base_is_name (Extend false false) rest = refl
base_is_name (Extend true false) rest = refl
base_is_name (Word false false) rest = refl
base_is_name (Word true false) rest = refl
base_is_name (Half Strh) rest = refl
base_is_name (Block false false false) rest = refl
base_is_name (Block false true false) rest = refl
base_is_name (Block true false false) rest = refl
base_is_name (Block true true false) rest = refl
base_is_name (Branch false) rest = refl
base_is_name (BranchReg false) rest = refl
base_is_name (LoadEx B1) rest = refl
base_is_name (StoreEx B1) rest = refl
base_is_name (Barrier Dsb) rest = refl
base_is_name operation rest = refl

pub mnemonic_is_name : (mnemonic : Mnemonic) → is_name (mnemonic_text mnemonic) ≡ true
mnemonic_is_name mnemonic = base_is_name mnemonic.operation (flags_text mnemonic.set_flags ++ condition_name mnemonic.cond)
