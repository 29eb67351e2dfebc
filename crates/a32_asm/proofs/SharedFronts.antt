-- Two names that have a byte in common at their fronts are in the order of what stands behind it.
use Rattle.std.proofs.Common.{◌≡◌, ◌<◌, ◌+◌, ℕ, Bool, true, false, ◌==◌, if◌then◌else◌, List, [], ◌∷◌, length, get_or, drop, sym, ap, ◌∙◌, arith, Equal}
use Rattle.std.specs.Cmp.Lexicographic.{slice_cmp}
use Rattle.std.specs.Ordering.{nat_cmp, ordering_then}
use Rattle.std.proofs.lemmas.List.{drop_more}
use Rattle.a32_forms.specs.Cuts.{before_code}

itself : (code : ℕ) → nat_cmp code code ≡ Equal
itself code = grind arith

shared_cons : (b : Bool) (code : ℕ) (xs ys : List ℕ) → b ≡ false
    → slice_cmp nat_cmp (if b then [] else code ∷ xs) (if b then [] else code ∷ ys) ≡ slice_cmp nat_cmp xs ys
shared_cons true code xs ys h = cc
shared_cons false code xs ys h = ap (λ r. ordering_then r (slice_cmp nat_cmp xs ys)) (itself code)

shared : (code : ℕ) (xs ys : List ℕ) → (code == 58) ≡ false
    → slice_cmp nat_cmp (before_code 58 (code ∷ xs)) (before_code 58 (code ∷ ys)) ≡ slice_cmp nat_cmp (before_code 58 xs) (before_code 58 ys)
unfolding before_code
shared code xs ys h = shared_cons (code == 58) code (before_code 58 xs) (before_code 58 ys) h

pub shared_more : (xs ys : List ℕ) (i : ℕ) → i < length xs → i < length ys → (get_or xs i 0 == 58) ≡ false → get_or xs i 0 ≡ get_or ys i 0
    → slice_cmp nat_cmp (before_code 58 (drop (i + 1) xs)) (before_code 58 (drop (i + 1) ys)) ≡ slice_cmp nat_cmp (before_code 58 (drop i xs)) (before_code 58 (drop i ys))
shared_more xs ys i h k colon same =
    sym (shared (get_or xs i 0) (drop (i + 1) xs) (drop (i + 1) ys) colon)
    ∙ ap (λ l. slice_cmp nat_cmp (before_code 58 l) (before_code 58 (get_or xs i 0 ∷ drop (i + 1) ys))) (sym (drop_more xs i 0 h))
    ∙ ap (λ l. slice_cmp nat_cmp (before_code 58 (drop i xs)) (before_code 58 l)) (ap (λ c. c ∷ drop (i + 1) ys) same ∙ sym (drop_more ys i 0 k))
