-- Where the label of a line stands in the text.
use Rattle.std.proofs.Common.{◌≡◌, ◌≤◌, ◌+◌, ◌-◌, ℕ, suc, Bool, true, false, ◌==◌, ◌&&◌, if◌then◌else◌, List, [], ◌∷◌, ◌++◌, drop, length, map, Some, None, refl, sym, ap, ◌∙◌, arith, append_assoc}
use Rattle.std.proofs.lemmas.List.{drop-drop, drop-append-le}
use Rattle.a32_forms.specs.Cuts.{before_code, from_code}
use Rattle.a32_forms.specs.Text.{is_wordy, is_blank, front_word, after_word, after_blanks, is_name}
use Rattle.a32_asm.specs.declared.layout.Spot.{Spot}
use Rattle.a32_asm.specs.Lines.{before_comment, begins_with, has_label, front_of, label_of}
use Rattle.a32_asm.specs.Layout.{place, indent_of, labels_here, labels_of, line_size}
use Rattle.a32_asm.specs.inner.Places.{label_at}
use Rattle.a32_asm.specs.inner.Seen.{places_here}
use Rattle.a32_asm.proofs.CutTexts.{pieces, before_fits}

-- ---- the blanks in front

unblanked_cons : (b : Bool) (code : ℕ) (text rest : List ℕ) → length rest ≤ length text → length (if b then rest else code ∷ text) ≤ length (code ∷ text)
unblanked_cons true code text rest h = omega (arith, h)
unblanked_cons false code text rest h = omega arith

pub unblanked_fits : (text : List ℕ) → length (after_blanks text) ≤ length text
unfolding after_blanks
unblanked_fits [] = omega arith
unblanked_fits (code ∷ text) = unblanked_cons (is_blank code) code text (after_blanks text) (unblanked_fits text)

dropped_cons : (b : Bool) (code : ℕ) (text rest : List ℕ) → length rest ≤ length text → drop (length text - length rest) text ≡ rest
    → drop (length (code ∷ text) - length (if b then rest else code ∷ text)) (code ∷ text) ≡ (if b then rest else code ∷ text)
dropped_cons true code text rest fits h =
    let e : length (code ∷ text) - length rest ≡ suc (length text - length rest) = omega (arith, fits) in
    ap (λ n. drop n (code ∷ text)) e ∙ h
dropped_cons false code text rest fits h =
    let e : length (code ∷ text) - length (code ∷ text) ≡ 0 = omega arith in
    ap (λ n. drop n (code ∷ text)) e

-- behind the blanks in front stands the rest
blanks_dropped : (text : List ℕ) → drop (length text - length (after_blanks text)) text ≡ after_blanks text
unfolding after_blanks
blanks_dropped [] = refl
blanks_dropped (code ∷ text) = dropped_cons (is_blank code) code text (after_blanks text) (unblanked_fits text) (blanks_dropped text)

-- ---- the name

no_colon : (code : ℕ) → is_wordy code ≡ true → (code == 58) ≡ false
no_colon code h = grind (arith, h)

ends_cons : (b : Bool) (code : ℕ) (text more : List ℕ) → is_wordy code ≡ b
    → (begins_with 58 (after_word text) ≡ true → before_code 58 (text ++ more) ≡ front_word text)
    → begins_with 58 (if b then after_word text else code ∷ text) ≡ true
    → (if code == 58 then [] else code ∷ before_code 58 (text ++ more)) ≡ (if b then code ∷ front_word text else [])
ends_cons true code text more is later h =
    ap (λ c. if c then [] else code ∷ before_code 58 (text ++ more)) (no_colon code is) ∙ ap (λ word. code ∷ word) (later h)
ends_cons false code text more is later h = ap (λ c. if c then [] else code ∷ before_code 58 (text ++ more)) h

-- a name that a colon follows is what stands before the colon
name_ends : (front more : List ℕ) → begins_with 58 (after_word front) ≡ true → before_code 58 (front ++ more) ≡ front_word front
unfolding before_code front_word after_word
name_ends [] more h = cc
name_ends (code ∷ text) more h = ends_cons (is_wordy code) code text more refl (name_ends text more) h

first_of : (a b : Bool) → (a && b) ≡ true → a ≡ true
first_of true b h = refl
first_of false b h = cc

second_of : (a b : Bool) → (a && b) ≡ true → b ≡ true
second_of true b h = h
second_of false b h = cc

module _ (text rest line : List ℕ) (read : ℕ) (stands : rest ≡ drop read text) (is : line ≡ before_code 10 rest) where
  abbrev more : List ℕ
  more = from_code 64 line ++ from_code 10 rest

  rest_is : rest ≡ before_comment line ++ more
  rest_is =
      sym (pieces 10 rest)
      ∙ ap (λ l. l ++ from_code 10 rest) (sym is ∙ sym (pieces 64 line))
      ∙ append_assoc (before_code 64 line) (from_code 64 line) (from_code 10 rest)

  -- from its label on, a line goes on to the end of the text
  label_stands : drop (read + indent_of line) text ≡ front_of line ++ more
  label_stands =
      sym (drop-drop (indent_of line) read text)
      ∙ ap (drop (indent_of line)) (sym stands ∙ rest_is)
      ∙ drop-append-le (indent_of line) (before_comment line) more (omega arith)
      ∙ ap (λ l. l ++ more) (blanks_dropped (before_comment line))

  name_stands : has_label (front_of line) ≡ true → before_code 58 (drop (read + indent_of line) text) ≡ front_word (front_of line)
  name_stands h =
      ap (before_code 58) label_stands
      ∙ name_ends (front_of line) more (second_of (is_name (front_word (front_of line))) (begins_with 58 (after_word (front_of line))) h)

  named_if : (spot : Spot) (b : Bool) → has_label (front_of line) ≡ b
      → map (label_at text) (places_here (place spot (read + indent_of line)) (if b then Some (front_word (front_of line)) else None))
      ≡ labels_here (place spot (read + indent_of line)) (if b then Some (front_word (front_of line)) else None)
  named_if spot true h = ap (λ name. record { name = name; place = place spot (read + indent_of line) } ∷ []) (name_stands h)
  named_if spot false h = refl

  -- the label at the place of a line's label is that label
  pub label_named : (spot : Spot) → map (label_at text) (places_here (place spot (read + indent_of line)) (label_of line)) ≡ labels_of spot read line
  label_named spot = named_if spot (has_label (front_of line)) refl

-- ---- a label stands in its line

begun : (text : List ℕ) → is_name (front_word text) ≡ true → 1 ≤ length text
unfolding front_word
begun [] h = cc
begun (code ∷ text) h = omega arith

sized : (line : List ℕ) (lines : List (List ℕ)) → length line ≤ line_size line lines
sized line [] = omega arith
sized line (next ∷ lines) = omega arith

pub label_within : (line : List ℕ) (lines : List (List ℕ)) → has_label (front_of line) ≡ true → indent_of line + 1 ≤ line_size line lines
label_within line lines h =
    let some : 1 ≤ length (front_of line) = begun (front_of line) (first_of (is_name (front_word (front_of line))) (begins_with 58 (after_word (front_of line))) h) in
    omega (arith, some, unblanked_fits (before_comment line), before_fits 64 line, sized line lines)
