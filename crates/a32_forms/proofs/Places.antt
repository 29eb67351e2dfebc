-- The places of words among names.
use Rattle.std.proofs.Common.{◌≡◌, ℕ, ◌+◌, ◌<◌, if◌then◌else◌, Bool, true, false, List, [], ◌∷◌, length, Option, Some, None, IfSome, refl, sym, ap, subst, ◌∙◌, arith}
use Rattle.std.specs.Str.{bytes_eq}
use Rattle.a32_forms.specs.Cuts.{before_code, from_code}
use Rattle.a32_forms.specs.Names.{names_in, place_from}
use Rattle.a32_forms.proofs.CutTexts.{more_pieces, split_cut}

place_cons : (place : ℕ) (name word : List ℕ) (names : List (List ℕ))
    → place_from place (name ∷ names) word ≡ (if bytes_eq name word then Some place else place_from (place + 1) names word)
unfolding place_from
place_cons place name word names = refl

place_cut : (place : ℕ) (rest word : List ℕ)
    → place_from place (names_in rest) word
    ≡ (if bytes_eq (before_code 32 rest) word then Some place else place_from (place + 1) (more_pieces 32 (from_code 32 rest)) word)
place_cut place rest word = ap (λ names. place_from place names word) (split_cut 32 rest) ∙ place_cons place (before_code 32 rest) word (more_pieces 32 (from_code 32 rest))

-- the word is the first name
pub place_here : (place : ℕ) (rest word : List ℕ) → bytes_eq (before_code 32 rest) word ≡ true → place_from place (names_in rest) word ≡ Some place
place_here place rest word h = place_cut place rest word ∙ ap (λ b. if b then Some place else place_from (place + 1) (more_pieces 32 (from_code 32 rest)) word) h

past : (place : ℕ) (rest word : List ℕ) → bytes_eq (before_code 32 rest) word ≡ false
    → place_from place (names_in rest) word ≡ place_from (place + 1) (more_pieces 32 (from_code 32 rest)) word
past place rest word h = place_cut place rest word ∙ ap (λ b. if b then Some place else place_from (place + 1) (more_pieces 32 (from_code 32 rest)) word) h

-- it is among those behind it
pub place_next : (place space : ℕ) (rest word after : List ℕ) → bytes_eq (before_code 32 rest) word ≡ false → from_code 32 rest ≡ space ∷ after
    → place_from place (names_in rest) word ≡ place_from (place + 1) (names_in after) word
place_next place space rest word after h e = past place rest word h ∙ ap (λ t. place_from (place + 1) (more_pieces 32 t) word) e

-- there is none behind it
pub place_end : (place : ℕ) (rest word : List ℕ) → bytes_eq (before_code 32 rest) word ≡ false → from_code 32 rest ≡ []
    → place_from place (names_in rest) word ≡ None
unfolding place_from
place_end place rest word h e = past place rest word h ∙ ap (λ t. place_from (place + 1) (more_pieces 32 t) word) e

-- a place is below the number of names
bound_cons : (b : Bool) (place most : ℕ) (later : Option ℕ) → place < most → IfSome later (λ v. v < most)
    → IfSome (if b then Some place else later) (λ v. v < most)
bound_cons true place most later h g = h
bound_cons false place most later h g = g

pub place_bound : (place : ℕ) (names : List (List ℕ)) (word : List ℕ) (most : ℕ) → place + length names ≡ most → IfSome (place_from place names word) (λ v. v < most)
unfolding place_from
place_bound place [] word most h = tt
place_bound place (name ∷ names) word most h =
    bound_cons (bytes_eq name word) place most (place_from (place + 1) names word) (omega arith) (place_bound (place + 1) names word most (omega arith))

pub found_below : (start place : ℕ) (names : List (List ℕ)) (word : List ℕ) → Some place ≡ place_from start names word → place < start + length names
found_below start place names word e =
    let below : IfSome (place_from start names word) (λ v. v < start + length names) = place_bound start names word (start + length names) refl in
    let P : Option ℕ → Type 0 = λ found. IfSome found (λ v. v < start + length names) in
    subst P (sym e) below
