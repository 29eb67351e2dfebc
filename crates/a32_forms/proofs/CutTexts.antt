-- A text that is cut at a byte, and the list of its pieces.
use Rattle.std.proofs.Common.{◌≡◌, ◌≤◌, ℕ, ◌-◌, ◌==◌, if◌then◌else◌, Bool, true, false, List, [], ◌∷◌, ◌++◌, length, take, refl, sym, ap, ◌∙◌, arith, length-append}
use Rattle.std.proofs.lemmas.List.{take_at}
use Rattle.std.specs.List.{slice_split, onto_first}
use Rattle.a32_forms.specs.Cuts.{before_code, from_code}

-- the two pieces are the text
pieces_cons : (b : Bool) (first : ℕ) (before from text : List ℕ) → before ++ from ≡ text
    → (if b then [] else first ∷ before) ++ (if b then first ∷ text else from) ≡ first ∷ text
pieces_cons true first before from text h = refl
pieces_cons false first before from text h = ap (λ t. first ∷ t) h

pieces : (code : ℕ) (text : List ℕ) → before_code code text ++ from_code code text ≡ text
unfolding before_code from_code
pieces code [] = refl
pieces code (first ∷ text) = pieces_cons (first == code) first (before_code code text) (from_code code text) text (pieces code text)

pub before_from : (code : ℕ) (text : List ℕ) → length (from_code code text) ≤ length text
before_from code text = let h = ap length (pieces code text) in omega (arith, length-append (before_code code text) (from_code code text), h)

pub before_is : (code : ℕ) (text : List ℕ) → take (length text - length (from_code code text)) text ≡ before_code code text
before_is code text =
    let e : length (before_code code text) ≡ length text - length (from_code code text) =
    let h = ap length (pieces code text) in omega (arith, length-append (before_code code text) (from_code code text), h) in
    ap (take (length text - length (from_code code text))) (sym (pieces code text)) ∙ take_at (before_code code text) (from_code code text) (length text - length (from_code code text)) e

-- the pieces behind the first, of a text that begins with the byte or is empty
abbrev pub more_pieces : ℕ → List ℕ → List (List ℕ)
more_pieces code [] = []
more_pieces code (first ∷ text) = slice_split (λ c. c == code) text

split_cons : (b : Bool) (code first : ℕ) (text before from : List ℕ) → slice_split (λ c. c == code) text ≡ before ∷ more_pieces code from
    → (if b then [] ∷ slice_split (λ c. c == code) text else onto_first first (slice_split (λ c. c == code) text))
    ≡ (if b then [] else first ∷ before) ∷ more_pieces code (if b then first ∷ text else from)
split_cons true code first text before from h = refl
split_cons false code first text before from h = ap (onto_first first) h

-- the list of the pieces has the first, and then those behind it
pub split_cut : (code : ℕ) (text : List ℕ) → slice_split (λ c. c == code) text ≡ before_code code text ∷ more_pieces code (from_code code text)
unfolding before_code from_code
split_cut code [] = refl
split_cut code (first ∷ text) = split_cons (first == code) code first text (before_code code text) (from_code code text) (split_cut code text)
