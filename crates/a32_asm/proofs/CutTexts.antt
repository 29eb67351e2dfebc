-- A text that is cut at a byte.
use Rattle.std.proofs.Common.{◌≡◌, ◌≤◌, ◌+◌, ℕ, Bool, true, false, ◌==◌, if◌then◌else◌, List, [], ◌∷◌, ◌++◌, length, refl, ap, ◌∙◌, arith, length-append}
use Rattle.a32_forms.specs.Cuts.{before_code, from_code}

pieces_cons : (b : Bool) (first : ℕ) (before from text : List ℕ) → before ++ from ≡ text
    → (if b then [] else first ∷ before) ++ (if b then first ∷ text else from) ≡ first ∷ text
pieces_cons true first before from text h = refl
pieces_cons false first before from text h = ap (λ t. first ∷ t) h

pub pieces : (code : ℕ) (text : List ℕ) → before_code code text ++ from_code code text ≡ text
unfolding before_code from_code
pieces code [] = refl
pieces code (first ∷ text) = pieces_cons (first == code) first (before_code code text) (from_code code text) text (pieces code text)

pub lengths : (code : ℕ) (text : List ℕ) → length text ≡ length (before_code code text) + length (from_code code text)
lengths code text = let h = ap length (pieces code text) in omega (arith, length-append (before_code code text) (from_code code text), h)

pub before_fits : (code : ℕ) (text : List ℕ) → length (before_code code text) ≤ length text
before_fits code text = omega (arith, lengths code text)

-- ---- what stands before a byte, cut at that byte again

again_cons : (code : ℕ) (b : Bool) (first : ℕ) (before : List ℕ) → (first == code) ≡ b → before_code code before ≡ before
    → before_code code (if b then [] else first ∷ before) ≡ (if b then [] else first ∷ before)
unfolding before_code
again_cons code true first before is h = refl
again_cons code false first before is h = ap (λ b. if b then [] else first ∷ before_code code before) is ∙ ap (λ t. first ∷ t) h

pub again : (code : ℕ) (text : List ℕ) → before_code code (before_code code text) ≡ before_code code text
unfolding before_code
again code [] = refl
again code (first ∷ text) = again_cons code (first == code) first (before_code code text) refl (again code text)

whole_cons : (b : Bool) (first : ℕ) (text before : List ℕ) → (length text ≤ length before → before ≡ text)
    → length (first ∷ text) ≤ length (if b then [] else first ∷ before) → (if b then [] else first ∷ before) ≡ first ∷ text
whole_cons true first text before later h = absurd (omega (arith, h))
whole_cons false first text before later h = ap (λ t. first ∷ t) (later (omega (arith, h)))

pub whole : (code : ℕ) (text : List ℕ) → length text ≤ length (before_code code text) → before_code code text ≡ text
unfolding before_code
whole code [] h = refl
whole code (first ∷ text) h = whole_cons (first == code) first text (before_code code text) (whole code text) h
