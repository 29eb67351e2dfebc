-- Places in the order of their names: the first of a name is the first in the text.
use Rattle.std.proofs.Common.{◌≡◌, ◌≤◌, ℕ, Bool, true, false, cond, List, [], ◌∷◌, map, Option, Some, Bor, refl, sym, ap, ◌∙◌, arith, Ordering, Less, Equal, Greater}
use Rattle.std.specs.Cmp.{IsTotalOrder, IsStrictWeakOrder, on_total, then_total, nat_cmp_total}
use Rattle.std.specs.Cmp.Lexicographic.{slice_cmp, nat_list_cmp_total}
use Rattle.std.specs.Fn.{Called, Mut}
use Rattle.std.specs.List.{find}
use Rattle.std.specs.List.Sorted.{IsPermutation, IsSorted, IsSortedByClosure}
use Rattle.std.specs.Option.{option_map}
use Rattle.std.specs.Ordering.{is_eq, is_lt, nat_cmp, ordering_then}
use Rattle.std.specs.Str.{bytes_eq}
use Rattle.std.proofs.lemmas.Fn.{always_returns_same}
use Rattle.std.proofs.lemmas.List.Sorted.{sorted_far, ranks_by}
use Rattle.std.proofs.lemmas.Map.Text.{is_eq-slice_cmp}
use Rattle.std.proofs.lemmas.Slice.Eq.{bytes_eq-Decides}
use Rattle.a32_asm.specs.declared.places.LabelPlace.{LabelPlace}
use Rattle.a32_asm.specs.Layout.{Label, place_in}
use Rattle.a32_asm.specs.inner.Places.{name_at, label_at, order_of, Rise}
use Rattle.a32_asm.proofs.FirstPlaces.{ordered, same_first}

order_total : (text : List ℕ) → IsTotalOrder (order_of text)
order_total text = then_total (on_total (name_at text) nat_list_cmp_total) (on_total (λ z. z.at) nat_cmp_total)

pub order_strict : (text : List ℕ) → IsStrictWeakOrder (λ x y. is_lt (order_of text x y))
order_strict text = ranks_by (order_total text) (λ z. z)

-- what a sort by the order of places ensures
pub sorted_from : {F : Type 0} {g : Mut F (Bor LabelPlace × (Bor LabelPlace × Unit {0})) Ordering} {f : F} (text : List ℕ) (places : List LabelPlace)
    → IsSortedByClosure g f places
    → ((a : Bor LabelPlace × (Bor LabelPlace × Unit {0})) (r : Ordering) (f' : F) → Called g f a r f' → (r ≡ order_of text a.0.now a.1.0.now) × (f' ≡ f))
    → IsSorted (order_of text) places
sorted_from {g = g} {f = f} text places up h =
    up (λ x y. is_lt (order_of text x y)) (order_strict text)
    (always_returns_same g (λ a r. is_lt r ≡ is_lt (order_of text a.0.now a.1.0.now)) f (λ a r f' k. (ap is_lt (h a r f' k).0, (h a r f' k).1)))

equal_is : (r : Ordering) → is_eq r ≡ true → r ≡ Equal
equal_is Less h = cc
equal_is Equal h = refl
equal_is Greater h = cc

pub same_names : (xs ys : List ℕ) → xs ≡ ys → slice_cmp nat_cmp xs ys ≡ Equal
same_names xs ys h = equal_is (slice_cmp nat_cmp xs ys) (is_eq-slice_cmp xs ys ∙ (bytes_eq-Decides xs ys).1 h)

not_before : (m n : ℕ) → is_lt (nat_cmp m n) ≡ false → n ≤ m
not_before m n h = grind (arith, h)

-- the place of a name among labels at places is the first place of that name
module _ (text name : List ℕ) where
  abbrev pub has_name : LabelPlace → Bool
  has_name z = bytes_eq name (name_at text z)

  placed : (b : Bool) (z : LabelPlace) (found : Option Label) (rest : Option LabelPlace) → option_map (λ label. label.place) found ≡ rest
      → option_map (λ label. label.place) (cond b (Some (label_at text z)) found) ≡ cond b (Some z) rest
  placed true z found rest h = refl
  placed false z found rest h = h

  pub place_found : (places : List LabelPlace) → place_in (map (label_at text) places) name ≡ find has_name places
  place_found [] = refl
  place_found (z ∷ places) = placed (has_name z) z (find (λ label. bytes_eq name label.name) (map (label_at text) places)) (find has_name places) (place_found places)

  closer : (x z : LabelPlace) → has_name x ≡ true → has_name z ≡ true → is_lt (order_of text z x) ≡ false → x.at ≤ z.at
  closer x z p q h =
      let same : name_at text z ≡ name_at text x = sym ((bytes_eq-Decides name (name_at text z)).0 q) ∙ (bytes_eq-Decides name (name_at text x)).0 p in
      not_before z.at x.at (ap (λ r. is_lt (ordering_then r (nat_cmp z.at x.at))) (sym (same_names (name_at text z) (name_at text x) same)) ∙ h)

  -- the sorted labels name the same places
  pub place_sorted : (xs ys : List LabelPlace) → Rise 0 xs → IsPermutation xs ys → IsSorted (order_of text) ys
      → place_in (map (label_at text) ys) name ≡ place_in (map (label_at text) xs) name
  place_sorted xs ys rise moved sorted =
      place_found ys
      ∙ same_first has_name (λ x y. is_lt (order_of text x y)) closer xs ys rise moved
      (ordered has_name (λ x y. is_lt (order_of text x y)) closer ys (sorted_far (λ x y. is_lt (order_of text x y)) (order_strict text) ys sorted))
      ∙ sym (place_found xs)
