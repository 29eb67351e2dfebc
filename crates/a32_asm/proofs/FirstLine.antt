-- The first line of a text is what stands before its first newline.
use Rattle.std.proofs.Common.{◌≡◌, ◌≤◌, ◌+◌, ℕ, suc, List, [], ◌∷◌, ◌++◌, drop, Bool, true, false, cond, if◌then◌else◌, ◌==◌, refl, sym, ap, ◌∙◌, arith, length}
use Rattle.std.proofs.lemmas.List.{drop_all, drop_at, drop-drop}
use Rattle.std.specs.List.{slice_split, onto_first}
use Rattle.a32_forms.specs.Cuts.{before_code, from_code}
use Rattle.a32_asm.specs.Lines.{lines_of}
use Rattle.a32_asm.specs.Layout.{line_size}
use Rattle.a32_asm.proofs.CutTexts.{pieces, lengths}

-- a byte in front of a text without newline
one_cons : (b : Bool) (code : ℕ) (text : List ℕ)
    → (from_code 10 text ≡ [] → slice_split (λ code. code == 10) text ≡ before_code 10 text ∷ [])
    → (if b then code ∷ text else from_code 10 text) ≡ []
    → cond b ([] ∷ slice_split (λ code. code == 10) text) (onto_first code (slice_split (λ code. code == 10) text))
    ≡ (if b then [] else code ∷ before_code 10 text) ∷ []
one_cons true code text later h = cc
one_cons false code text later h = ap (onto_first code) (later h)

no_newline : (text : List ℕ) → from_code 10 text ≡ [] → lines_of text ≡ before_code 10 text ∷ []
unfolding before_code from_code
no_newline [] h = refl
no_newline (code ∷ text) h = one_cons (code == 10) code text (no_newline text) h

empty_is : (rest : List ℕ) → length rest ≡ 0 → rest ≡ []
empty_is [] h = refl
empty_is (code ∷ rest) h = absurd (omega (arith, h))

pub one_line : (text : List ℕ) → length (from_code 10 text) ≡ 0 → lines_of text ≡ before_code 10 text ∷ []
one_line text h = no_newline text (empty_is (from_code 10 text) h)

cut_cons : (b : Bool) (code newline : ℕ) (text rest : List ℕ)
    → (from_code 10 text ≡ newline ∷ rest → slice_split (λ code. code == 10) text ≡ before_code 10 text ∷ slice_split (λ code. code == 10) rest)
    → (if b then code ∷ text else from_code 10 text) ≡ newline ∷ rest
    → cond b ([] ∷ slice_split (λ code. code == 10) text) (onto_first code (slice_split (λ code. code == 10) text))
    ≡ (if b then [] else code ∷ before_code 10 text) ∷ slice_split (λ code. code == 10) rest
cut_cons true code newline text rest later h = let e : text ≡ rest = cc in ap (λ t. [] ∷ slice_split (λ code. code == 10) t) e
cut_cons false code newline text rest later h = ap (onto_first code) (later h)

pub line_before : (text : List ℕ) (newline : ℕ) (rest : List ℕ) → from_code 10 text ≡ newline ∷ rest
    → lines_of text ≡ before_code 10 text ∷ lines_of rest
unfolding before_code from_code
line_before [] newline rest h = cc
line_before (code ∷ text) newline rest h = cut_cons (code == 10) code newline text rest (line_before text newline rest) h

-- ---- lengths

put_in_front : (line : List ℕ) (code : ℕ) (lines : List (List ℕ)) → line_size line lines ≡ length line + 1 → line_size line (onto_first code lines) ≡ length line + 1
put_in_front line code [] h = absurd (omega (arith, h))
put_in_front line code (first ∷ lines) h = refl

more_cons : (b : Bool) (line : List ℕ) (code : ℕ) (lines : List (List ℕ)) → line_size line lines ≡ length line + 1
    → line_size line (cond b ([] ∷ lines) (onto_first code lines)) ≡ length line + 1
more_cons true line code lines h = refl
more_cons false line code lines h = put_in_front line code lines h

-- a line with others behind it has a newline
more : (line text : List ℕ) → line_size line (lines_of text) ≡ length line + 1
more line [] = refl
more line (code ∷ text) = more_cons (code == 10) line code (lines_of text) (more line text)

pub length_alone : (text : List ℕ) → length (from_code 10 text) ≡ 0 → length text ≡ length (before_code 10 text) + 0
length_alone text h = omega (arith, h, lengths 10 text)

pub length_before : (text : List ℕ) (newline : ℕ) (rest : List ℕ) → from_code 10 text ≡ newline ∷ rest
    → length text ≡ line_size (before_code 10 text) (lines_of rest) + length rest
length_before text newline rest h =
    let e : length (from_code 10 text) ≡ suc (length rest) = ap length h in
    omega (arith, e, lengths 10 text, more (before_code 10 text) rest)

pub rest_shorter : (text : List ℕ) (newline : ℕ) (rest : List ℕ) → from_code 10 text ≡ newline ∷ rest → length rest + 1 ≤ length text
rest_shorter text newline rest h =
    let e : length (from_code 10 text) ≡ suc (length rest) = ap length h in
    omega (arith, e, lengths 10 text)

-- ---- what stands behind the first line

pub rest_alone : (text : List ℕ) → length (from_code 10 text) ≡ 0 → [] ≡ drop (length (before_code 10 text)) text
rest_alone text h = sym (drop_all (length (before_code 10 text)) text (omega (arith, h, lengths 10 text)))

pub rest_before : (text : List ℕ) (newline : ℕ) (rest : List ℕ) → from_code 10 text ≡ newline ∷ rest
    → rest ≡ drop (line_size (before_code 10 text) (lines_of rest)) text
rest_before text newline rest h =
    ap (drop 1) (sym (drop_at (before_code 10 text) (newline ∷ rest) (length (before_code 10 text)) refl))
    ∙ ap (λ t. drop 1 (drop (length (before_code 10 text)) t)) (ap (λ t. before_code 10 text ++ t) (sym h) ∙ pieces 10 text)
    ∙ drop-drop 1 (length (before_code 10 text)) text
    ∙ ap (λ n. drop n text) (sym (more (before_code 10 text) rest))
