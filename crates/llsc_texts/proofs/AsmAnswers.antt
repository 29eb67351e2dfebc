-- What the file of a text is answered with.
use Rattle.std.proofs.Common.{◌≡◌, ℕ, Bool, true, false, List, Some, None, Result, Err, refl, sym, ◌∙◌, ap, codes}
use Rattle.std.specs.Str.{IsUtf8, is_utf8}
use Rattle.std.proofs.lemmas.Str.{IsUtf8-from_is_utf8, is_utf8-from_IsUtf8}
use Rattle.elf32.specs.declared.units.Unit.{Unit}
use Rattle.a32_asm.specs.declared.assembler.AsmFault.{AsmFault}
use Rattle.a32_asm.specs.Assembled.{most_text, unit_of}
use Rattle.llsc_words.specs.declared.formats.Format.{Format}
use Rattle.llsc_files.specs.Refusals.{Answer, refused, unless, too_long, IsRefusal}
use Rattle.llsc_files.specs.declared.refusals.Refusal.{Refusal}
use Rattle.llsc_files.specs.declared.refusals.Refusal.TheVariants as refusal
use Rattle.llsc_texts.specs.Assembly.{not_text, text_refusal, text_answer, asm_answer, IsGiven}

-- a refusal by a name is given for the answer that it is
pub given_refused : (name : List ℕ) (answer : Answer) (r : Refusal) → refused name ≡ answer → IsRefusal (Some name) r → IsGiven answer (Err r)
given_refused name answer (refusal.Said text) is said =
    let same : said.0 ≡ name = cc (said.1.0) in
    sym is ∙ ap refused (sym same) ∙ ap (λ (t : List ℕ). let a : Answer = record { status = 4; text = t } in a) (sym said.1.1)
given_refused name answer refusal.Memory is said = tt

-- what stands against a file that isn't too long
refusal_is : (file : List ℕ) → too_long most_text file ≡ None → text_refusal file ≡ not_text file
refusal_is file short = rw short refl

not_utf8 : (file : List ℕ) → (IsUtf8 file → ⊥) → is_utf8 file ≡ false
not_utf8 file none = decided (is_utf8 file) refl
  where
    decided : (b : Bool) → is_utf8 file ≡ b → is_utf8 file ≡ false
    decided true is = absurd (none (IsUtf8-from_is_utf8 file is))
    decided false is = is

-- no text
pub asm_no_text : (format : Format) (file : List ℕ) → too_long most_text file ≡ None → (IsUtf8 file → ⊥) → refused (codes "NotText") ≡ asm_answer format file
asm_no_text format file short none =
    let is : text_refusal file ≡ Some (codes "NotText") = refusal_is file short ∙ rw (not_utf8 file none) refl in
    ap (λ r. unless r (text_answer format (unit_of file))) (sym is)

-- a text, by what it is as a program
pub asm_text : (format : Format) (file : List ℕ) (made : Result Unit AsmFault) → too_long most_text file ≡ None → IsUtf8 file → unit_of file ≡ made → text_answer format made ≡ asm_answer format file
asm_text format file made short utf8 is =
    let clean : text_refusal file ≡ None = refusal_is file short ∙ rw (is_utf8-from_IsUtf8 file utf8) refl in
    sym (ap (λ r. unless r (text_answer format (unit_of file))) clean ∙ ap (text_answer format) is)
