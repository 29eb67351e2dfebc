-- What is counted of a list, one after another.
use Rattle.std.proofs.Common.{◌≡◌, ℕ, ◌+◌, ◌<◌, ◌≤◌, ◌^◌, List, ◌++◌, [], ◌∷◌, length, take, drop, get_or, arith, ap, sym, ◌∙◌, append_assoc, append-nil}
use Rattle.std.specs.List.{flat_map, sum_by}
use Rattle.std.proofs.lemmas.Grind.{flat_map-append}
use Rattle.std.proofs.lemmas.List.{take-append-drop, take_more}
use Rattle.std.proofs.lemmas.List.Sums.{sum_by-take-le, sum_by_push}

pub one_more : {X : Type 0} (f : X → ℕ) (xs : List X) (i : ℕ) (d : X) → i < length xs → sum_by f (take (i + 1) xs) ≡ sum_by f (take i xs) + f (get_or xs i d)
one_more f xs i d within = ap (sum_by f) (take_more xs i d within) ∙ sum_by_push f (take i xs) (get_or xs i d)

-- the text of one more
pub text_more : {X A : Type 0} (f : X → List A) (xs : List X) (i : ℕ) (x : X) → i < length xs → x ≡ get_or xs i x
    → flat_map f (take (i + 1) xs) ≡ flat_map f (take i xs) ++ f x
text_more f xs i x within is =
    ap (flat_map f) (take_more xs i x within ∙ ap (λ y. take i xs ++ y ∷ []) (sym is)) ∙ flat_map-append f (take i xs) (x ∷ []) ∙ ap (λ t. flat_map f (take i xs) ++ t) (append-nil (f x))

-- the texts of a list, around one of it
pub split_at : {X A : Type 0} (f : X → List A) (xs : List X) (i : ℕ) (x : X) → i < length xs → x ≡ get_or xs i x → flat_map f xs ≡ flat_map f (take i xs) ++ (f x ++ flat_map f (drop (i + 1) xs))
split_at f xs i x within is =
    ap (flat_map f) (sym (take-append-drop (i + 1) xs)) ∙ flat_map-append f (take (i + 1) xs) (drop (i + 1) xs)
    ∙ ap (λ t. t ++ flat_map f (drop (i + 1) xs)) (text_more f xs i x within is)
    ∙ append_assoc (flat_map f (take i xs)) (f x) (flat_map f (drop (i + 1) xs))

-- one more is counted, and fits where all do
pub one_counts : {X : Type 0} (f : X → ℕ) (xs : List X) (i : ℕ) (x : X) (done : ℕ) → i < length xs → x ≡ get_or xs i x → done ≡ sum_by f (take i xs)
    → done + f x ≡ sum_by f (take (i + 1) xs)
one_counts f xs i x done within is so_far =
    ap (λ n. n + f x) so_far ∙ ap (λ y. sum_by f (take i xs) + f y) is ∙ sym (one_more f xs i x within)

pub one_fits : {X : Type 0} (f : X → ℕ) (xs : List X) (i : ℕ) (x : X) (done : ℕ) → i < length xs → x ≡ get_or xs i x → done ≡ sum_by f (take i xs)
    → sum_by f xs < 2 ^ 64 → done + f x < 2 ^ 64
one_fits f xs i x done within is so_far all =
    let here : done + f x ≡ sum_by f (take (i + 1) xs) = one_counts f xs i x done within is so_far in
    let most : sum_by f (take (i + 1) xs) ≤ sum_by f xs = sum_by-take-le f xs (i + 1) in
    omega (arith, here, most, all)
