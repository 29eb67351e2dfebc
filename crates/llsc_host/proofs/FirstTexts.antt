-- Texts of the first numbers, one after another.
use Rattle.std.proofs.Common.{◌≡◌, ℕ, zero, suc, ◌+◌, ◌-◌, ◌≤◌, List, [], ◌∷◌, ◌++◌, ◌∙◌, ap, sym, subst, arith, append-nil, refl, zero-add, add-zero}
use Rattle.std.specs.List.{flat_map, range_with_len}
use Rattle.std.proofs.lemmas.Grind.{flat_map-append}
use Rattle.llsc_host.specs.Writes.{Broke}
use Rattle.llsc_host.specs.declared.host.Host.{Ghosts}
use Rattle.llsc_host.proofs.Kept.{broke_first}

pub range_split : (from n m : ℕ) → range_with_len from (n + m) ≡ range_with_len from n ++ range_with_len (from + n) m
range_split from zero m = rw (zero-add m, add-zero from) refl
range_split from (suc n) m =
    let one : suc n + m ≡ suc (n + m) = omega arith in
    let on : from + 1 + n ≡ from + suc n = omega arith in
    ap (range_with_len from) one ∙ ap (λ r. from ∷ r) (range_split (from + 1) n m) ∙ ap (λ k. from ∷ (range_with_len (from + 1) n ++ range_with_len k m)) on

-- one number more
pub range_more : (i : ℕ) → range_with_len 0 (i + 1) ≡ range_with_len 0 i ++ i ∷ []
range_more i = range_split 0 i 1 ∙ rw (zero-add i) refl

pub texts_more : (text : ℕ → List ℕ) (i : ℕ) → flat_map text (range_with_len 0 (i + 1)) ≡ flat_map text (range_with_len 0 i) ++ text i
texts_more text i =
    ap (flat_map text) (range_more i) ∙ flat_map-append text (range_with_len 0 i) (i ∷ []) ∙ rw (append-nil (text i)) refl

-- the first texts cut short are all texts cut short
pub texts_broke : {S : Type 0} (host : Ghosts S) (text : ℕ → List ℕ) (i n : ℕ) (old new : S) → i ≤ n
    → Broke host old new (flat_map text (range_with_len 0 i)) → Broke host old new (flat_map text (range_with_len 0 n))
texts_broke host text i n old new less broke =
    let sum : n ≡ i + (n - i) = omega arith in
    let split : flat_map text (range_with_len 0 n) ≡ flat_map text (range_with_len 0 i) ++ flat_map text (range_with_len (0 + i) (n - i)) =
    ap (λ c. flat_map text (range_with_len 0 c)) sum
    ∙ ap (flat_map text) (range_split 0 i (n - i))
    ∙ flat_map-append text (range_with_len 0 i) (range_with_len (0 + i) (n - i)) in
    subst (Broke host old new) (sym split) (broke_first host old new (flat_map text (range_with_len 0 i)) (flat_map text (range_with_len (0 + i) (n - i))) broke)
