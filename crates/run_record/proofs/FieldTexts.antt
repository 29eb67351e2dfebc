-- Fields: the text of each, and the text read again.
use Rattle.std.proofs.Common.{◌≡◌, ℕ, ◌<◌, ◌^◌, ◌==◌, not, true, List, [], ◌∷◌, ◌++◌, length, take, drop, Option, Some, refl, sym, ap, ◌∙◌, arith}
use Rattle.std.specs.Str.{bytes_eq}
use Rattle.std.specs.List.{list_all}
use Rattle.std.specs.Fmt.{decimal}
use Rattle.std.proofs.Math.Seq.{take-append_seam, drop-append_seam}
use Rattle.std.proofs.lemmas.Bool.{and_parts}
use Rattle.std.proofs.lemmas.Bool.Decides.{nat_tests}
use Rattle.std.proofs.lemmas.List.{take-append-drop}
use Rattle.std.proofs.lemmas.Slice.Eq.{bytes_eq-Decides}
use Rattle.number_text.specs.Digits.{is_digit}
use Rattle.number_text.specs.Hexadecimal.{is_lower_digit, long_text, word_text}
use Rattle.number_text.proofs.HexTexts.{long_lower, word_lower}
use Rattle.number_text.proofs.Values.{decimal_is}
use Rattle.run_record.specs.Fields.{◌>>=◌, after, cut, field}
use Rattle.run_record.proofs.Options.{bind_goes, bind_some, if_only, some_same}
use Rattle.run_record.proofs.Cuts.{cut_again, cut_takes, lacks}

-- a field of bytes: its word, what that means, and the byte behind it
pub record IsField {A : Type 0} (meaning : List ℕ → Option A) (code : ℕ) (bytes : List ℕ) (r : A × List ℕ) : Type 0 where
  pub word : List ℕ
  pub means : meaning word ≡ Some r.0
  pub text : bytes ≡ word ++ code ∷ r.1

pub field_takes : {A : Type 0} (meaning : List ℕ → Option A) (code : ℕ) (bytes : List ℕ) (r : A × List ℕ)
    → field meaning code bytes ≡ Some r → IsField meaning code bytes r
field_takes meaning code bytes r h =
    let cuts = bind_some (cut code bytes) (λ word. meaning word.0 >>= λ value. Some (value, word.1)) r h in
    let reads = bind_some (meaning cuts.0.0) (λ value. Some (value, cuts.0.1)) r cuts.2 in
    let same = some_same (reads.0, cuts.0.1) r reads.2 in
    record {
      word = cuts.0.0;
      means = reads.1 ∙ ap (λ p. Some p.0) same;
      text = cut_takes code bytes cuts.0 cuts.1 ∙ ap (λ p. cuts.0.0 ++ code ∷ p.1) same;
    }

pub field_again : {A : Type 0} (meaning : List ℕ → Option A) (code : ℕ) (word rest : List ℕ) (x : A)
    → meaning word ≡ Some x → lacks code word ≡ true → field meaning code (word ++ code ∷ rest) ≡ Some (x, rest)
field_again meaning code word rest x means lack =
    bind_goes (cut code (word ++ code ∷ rest)) (λ word. meaning word.0 >>= λ value. Some (value, word.1)) (word, rest) (cut_again code word rest lack)
    ∙ bind_goes (meaning word) (λ value. Some (value, rest)) x means

-- bytes that begin with a text

pub same_bytes : (a b : List ℕ) → bytes_eq a b ≡ true → a ≡ b
same_bytes a b h = (bytes_eq-Decides a b).0 h

pub bytes_same : (a : List ℕ) → bytes_eq a a ≡ true
bytes_same a = (bytes_eq-Decides a a).1 refl

pub after_takes : (text bytes rest : List ℕ) → after text bytes ≡ Some rest → bytes ≡ text ++ rest
after_takes text bytes rest h =
    let is = if_only (bytes_eq (take (length text) bytes) text) (drop (length text) bytes) rest h in
    sym (take-append-drop (length text) bytes) ∙ ap (λ t. t ++ drop (length text) bytes) (same_bytes (take (length text) bytes) text is.0) ∙ ap (λ t. text ++ t) is.1

pub after_again : (text rest : List ℕ) → after text (text ++ rest) ≡ Some rest
after_again text rest = rw (take-append_seam text rest, drop-append_seam text rest, bytes_same text) refl

-- digits lack what is no digit

digit_other : (code digit : ℕ) → code < 48 → is_digit digit ≡ true → not (digit == code) ≡ true
digit_other code digit h is = grind (arith, nat_tests, h, is)

lower_other : (code digit : ℕ) → code < 48 → is_lower_digit digit ≡ true → not (digit == code) ≡ true
lower_other code digit h is = grind (arith, nat_tests, h, is)

pub digits_lack : (code : ℕ) → code < 48 → (word : List ℕ) → list_all is_digit word ≡ true → lacks code word ≡ true
digits_lack code h [] all = refl
digits_lack code h (digit ∷ word) all =
    let both = and_parts (is_digit digit) (list_all is_digit word) all in
    rw (digit_other code digit h both.0, digits_lack code h word both.1) refl

pub lower_lack : (code : ℕ) → code < 48 → (word : List ℕ) → list_all is_lower_digit word ≡ true → lacks code word ≡ true
lower_lack code h [] all = refl
lower_lack code h (digit ∷ word) all =
    let both = and_parts (is_lower_digit digit) (list_all is_lower_digit word) all in
    rw (lower_other code digit h both.0, lower_lack code h word both.1) refl

pub decimal_lacks : (code n : ℕ) → code < 48 → n < 2 ^ 64 → lacks code (decimal n) ≡ true
decimal_lacks code n h small = digits_lack code h (decimal n) (decimal_is n small).digits_all

pub word_lacks : (code n : ℕ) → code < 48 → n < 2 ^ 32 → lacks code (word_text n) ≡ true
word_lacks code n h small = lower_lack code h (word_text n) (word_lower n small).lower

pub long_lacks : (code n : ℕ) → code < 48 → n < 2 ^ 64 → lacks code (long_text n) ≡ true
long_lacks code n h small = lower_lack code h (long_text n) (long_lower n small).lower
