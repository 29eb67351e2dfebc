-- The bytes of a shown text: no other than printed ones of ASCII and spaces, and no `@`.
use Rattle.std.proofs.Common.{◌≡◌, ℕ, ◌<◌, ◌^◌, ◌==◌, ◌||◌, if◌then◌else◌, IsTrue, Bool, true, false, List, [], ◌∷◌, ◌++◌, drop, slice_index_or, codes, arith, refl}
use Rattle.std.specs.List.{list_all}
use Rattle.std.specs.Fmt.{decimal}
use Rattle.std.proofs.lemmas.Bool.{and_parts, and_from, both_ways, ltb-true}
use Rattle.std.proofs.lemmas.Bool.Decides.{nat_tests}
use Rattle.a32_instr.specs.declared.instructions.AluOp.TheVariants.{And}
use Rattle.a32_instr.specs.declared.instructions.LongKind.TheVariants.{Umull}
use Rattle.a32_instr.specs.declared.instructions.HalfKind.TheVariants.{Strh}
use Rattle.a32_instr.specs.declared.instructions.BarrierKind.TheVariants.{Dsb}
use Rattle.a32_instr.specs.declared.instructions.Instr.{Instr}
use Rattle.llsc_base.specs.declared.access.Size.TheVariants.{B1}
use Rattle.number_text.specs.Hexadecimal.{word_text}
use Rattle.a32_instr.specs.Block.{registers_of}
use Rattle.a32_forms.specs.Text.{is_wordy}
use Rattle.a32_forms.specs.Names.{names_in, register_name, shown_registers, shift_name, shifts}
use Rattle.a32_forms.specs.Registers.{list_text}
use Rattle.a32_forms.specs.Forms.{forms_in, form_in, b, k, n, r, x, H, L, O, X}
use Rattle.a32_forms.specs.Written.{written, number_text, sign_text, has_number, mark_text}
use Rattle.a32_forms.specs.Fits.{fits_form, fits_sign}
use Rattle.a32_forms.proofs.WordParts.{is_word, decimal_is_word, word_is_word}
use Rattle.a32_syntax.specs.declared.operations.Operation.{Operation}
use Rattle.a32_syntax.specs.declared.operations.Operation.TheVariants.{Alu, Long, Extend, Word, Half, Block, Branch, BranchReg, LoadEx, StoreEx, Barrier}
use Rattle.a32_syntax.specs.Mnemonics.{mnemonic_text}
use Rattle.a32_syntax.specs.Operands.{operands_of}
use Rattle.a32_syntax.specs.Shown.{showing_of, operands_text, instruction_text, is_shown_code}
use Rattle.a32_syntax.specs.Formed.{IsFormed}
use Rattle.a32_syntax.proofs.Texts.{passes_at, mnemonic_wordy}
use Rattle.a32_syntax.proofs.EachInstruction.{fits_its_form}

-- each byte of a text may be shown
abbrev pub AreShown : List ℕ → Type 0
AreShown text = IsTrue (list_all is_shown_code text)

wordy_shown : (code : ℕ) → is_wordy code ≡ true → is_shown_code code ≡ true
wordy_shown code h = grind (arith, nat_tests, h)

word_shown : (word : List ℕ) → IsTrue (list_all is_wordy word) → AreShown word
word_shown [] h = refl
word_shown (code ∷ word) h =
    let parts : IsTrue (is_wordy code) × IsTrue (list_all is_wordy word) = and_parts (is_wordy code) (list_all is_wordy word) h in
    and_from (is_shown_code code) (list_all is_shown_code word) (wordy_shown code parts.0) (word_shown word parts.1)

shown_join : (front back : List ℕ) → AreShown front → AreShown back → AreShown (front ++ back)
shown_join [] back h g = g
shown_join (code ∷ front) back h g =
    let parts : IsTrue (is_shown_code code) × AreShown front = and_parts (is_shown_code code) (list_all is_shown_code front) h in
    and_from (is_shown_code code) (list_all is_shown_code (front ++ back)) parts.0 (shown_join front back parts.1 g)

register_shown : (number : ℕ) → AreShown (register_name number)
register_shown number = passes_at (λ text. list_all is_shown_code text) (names_in shown_registers) number refl refl

shift_shown : (kind : ℕ) → AreShown (shift_name kind)
shift_shown kind = passes_at (λ text. list_all is_shown_code text) (names_in shifts) kind refl refl

list_shown : (registers : List ℕ) → AreShown (list_text registers)
unfolding list_text
list_shown [] = refl
list_shown (register ∷ []) = register_shown register
list_shown (register ∷ next ∷ registers) =
    shown_join (register_name register) (codes ", " ++ list_text (next ∷ registers)) (register_shown register)
    (shown_join (codes ", ") (list_text (next ∷ registers)) refl (list_shown (next ∷ registers)))

choice : (test : Bool) (front back : List ℕ) → (test ≡ true → AreShown front) → (test ≡ false → AreShown back) → AreShown (if test then front else back)
choice true front back first second = first refl
choice false front back first second = second refl

mark_shown : (code number : ℕ) → is_shown_code code ≡ true → AreShown (mark_text code number)
mark_shown code number h = choice (number == 0) [] (code ∷ []) (λ e. refl) (λ e. and_from (is_shown_code code) true h refl)

-- a word that isn't empty
word_is_shown : (word : List ℕ) → is_word word ≡ true → AreShown word
word_is_shown [] h = refl
word_is_shown (code ∷ word) h = word_shown (code ∷ word) h

-- a number of 32 bits at the signs of numbers
number_small : (sign number : ℕ) → fits_sign sign number ≡ true → (sign == r) ≡ false → ((sign == n) || (sign == x)) ≡ true → number < 2 ^ 32
number_small sign number fits other is = ltb-true number (2 ^ 32) (rw (other, is) at fits)

number_shown : (sign number : ℕ) → fits_sign sign number ≡ true → AreShown (number_text sign number)
unfolding number_text
number_shown sign number fits =
    choice (sign == r) (register_name number) _ (λ e. register_shown number)
    (λ not_r. choice (sign == n) (decimal number) _ (λ e. word_is_shown (decimal number) (decimal_is_word number (number_small sign number fits not_r (rw e refl))))
    (λ not_n. choice (sign == x) (codes "0x" ++ word_text number) _ (λ e. word_is_shown (codes "0x" ++ word_text number) (word_is_word number (number_small sign number fits not_r (rw (not_n, e) refl))))
    (λ not_x. choice (sign == k) (shift_name number) _ (λ e. shift_shown number)
    (λ not_k. choice (sign == b) (list_text (registers_of number)) _ (λ e. list_shown (registers_of number))
    (λ not_b. choice (sign == 126) (mark_text 45 number) (mark_text 33 number) (λ e. mark_shown 45 number refl) (λ e. mark_shown 33 number refl))))))

sign_shown : (sign : ℕ) → is_shown_code sign ≡ true → AreShown (sign_text sign)
unfolding sign_text
sign_shown sign h =
    choice (sign == X) (codes "rrx") _ (λ e. refl)
    (λ not_x. choice (sign == O) (codes "ror") _ (λ e. refl)
    (λ not_o. choice (sign == L) (codes "lo") _ (λ e. refl)
    (λ not_l. choice (sign == H) (codes "hi") (sign ∷ []) (λ e. refl) (λ e. and_from (is_shown_code sign) true h refl))))

-- what a form with a sign in front asks of its numbers
first_fits : (sign : ℕ) (form numbers : List ℕ) → has_number sign ≡ true → fits_form (sign ∷ form) numbers ≡ true
    → (fits_sign sign (slice_index_or numbers 0 0) ≡ true) × (fits_form form (drop 1 numbers) ≡ true)
first_fits sign form [] e fits = absurd (both_ways false refl (rw e at fits))
first_fits sign form (number ∷ numbers) e fits = and_parts (fits_sign sign number) (fits_form form numbers) (rw e at fits)

rest_fits : (sign : ℕ) (form numbers : List ℕ) → has_number sign ≡ false → fits_form (sign ∷ form) numbers ≡ true → fits_form form numbers ≡ true
rest_fits sign form [] e fits = rw e at fits
rest_fits sign form (number ∷ numbers) e fits = rw e at fits

written_shown : (form numbers : List ℕ) → AreShown form → fits_form form numbers ≡ true → AreShown (written form numbers)
unfolding written
written_shown [] numbers h fits = refl
written_shown (sign ∷ form) numbers h fits =
    let parts : IsTrue (is_shown_code sign) × AreShown form = and_parts (is_shown_code sign) (list_all is_shown_code form) h in
    choice (has_number sign) (number_text sign (slice_index_or numbers 0 0) ++ written form (drop 1 numbers)) (sign_text sign ++ written form numbers)
    (λ e.
    let both : (fits_sign sign (slice_index_or numbers 0 0) ≡ true) × (fits_form form (drop 1 numbers) ≡ true) = first_fits sign form numbers e fits in
    shown_join (number_text sign (slice_index_or numbers 0 0)) (written form (drop 1 numbers)) (number_shown sign (slice_index_or numbers 0 0) both.0)
    (written_shown form (drop 1 numbers) parts.1 both.1))
    (λ e. shown_join (sign_text sign) (written form numbers) (sign_shown sign parts.0) (written_shown form numbers parts.1 (rest_fits sign form numbers e fits)))

forms_shown : (operation : Operation) → IsTrue (list_all (λ form. list_all is_shown_code form) (forms_in (operands_of operation)))
forms_shown (Alu And) = refl
forms_shown (Long Umull) = refl
forms_shown (Extend false false) = refl
forms_shown (Extend true false) = refl
forms_shown (Word false false) = refl
forms_shown (Word true false) = refl
forms_shown (Half Strh) = refl
forms_shown (Block false false false) = refl
forms_shown (Block false true false) = refl
forms_shown (Block true false false) = refl
forms_shown (Block true true false) = refl
forms_shown (Branch false) = refl
forms_shown (BranchReg false) = refl
forms_shown (LoadEx B1) = refl
forms_shown (StoreEx B1) = refl
forms_shown (Barrier Dsb) = refl
forms_shown operation = refl

form_shown : (operation : Operation) (form : ℕ) → AreShown (form_in (operands_of operation) form)
form_shown operation form = passes_at (λ form. list_all is_shown_code form) (forms_in (operands_of operation)) form refl (forms_shown operation)

operands_shown_plain : (form numbers : List ℕ) → AreShown form → fits_form form numbers ≡ true → AreShown (operands_text form numbers)
operands_shown_plain [] numbers h fits = refl
operands_shown_plain (sign ∷ form) numbers h fits =
    and_from (is_shown_code 32) (list_all is_shown_code (written (sign ∷ form) numbers)) refl (written_shown (sign ∷ form) numbers h fits)

-- the text of a formed instruction
pub text_shown : (i : Instr) (here : ℕ) → IsFormed i → AreShown (instruction_text i here)
text_shown i here formed =
    shown_join (mnemonic_text (showing_of i here).mnemonic)
    (operands_text (form_in (operands_of (showing_of i here).mnemonic.operation) (showing_of i here).form) (showing_of i here).numbers)
    (word_shown (mnemonic_text (showing_of i here).mnemonic) (mnemonic_wordy (showing_of i here).mnemonic))
    (operands_shown_plain (form_in (operands_of (showing_of i here).mnemonic.operation) (showing_of i here).form) (showing_of i here).numbers
    (form_shown (showing_of i here).mnemonic.operation (showing_of i here).form) (fits_its_form i here formed))
