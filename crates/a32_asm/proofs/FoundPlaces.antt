-- A name that is looked up among places in the order of their names.
use Rattle.std.proofs.Common.{◌≡◌, ◌≤◌, ◌<◌, ◌+◌, ℕ, zero, suc, Bool, true, false, cond, List, [], ◌∷◌, length, get_or, drop, map, Option, Some, None, Bor, refl, sym, ap, ◌∙◌, subst, arith, ◌⊎◌, inl, inr, ⊎_elim, Ordering, Less, Equal, Greater}
use Rattle.std.specs.Cmp.Lexicographic.{slice_cmp, nat_list_cmp_total}
use Rattle.std.specs.Fn.{Called, ComputesKey, Mut}
use Rattle.std.specs.List.{find}
use Rattle.std.specs.List.Sorted.{IsSorted, IsNonDecreasingBy, IsPartitionPoint, IsPartitionedBy}
use Rattle.std.specs.Ordering.{is_eq, is_lt, is_ne, nat_cmp, ordering_then, ordering_index}
use Rattle.std.proofs.lemmas.List.{drop_more}
use Rattle.std.proofs.lemmas.List.Elements.{recursion_from_All}
use Rattle.std.proofs.lemmas.List.Sorted.{IsPartitionPoint-from_clause, searchable_from_sorted}
use Rattle.std.proofs.lemmas.Map.Text.{is_eq-slice_cmp}
use Rattle.std.proofs.lemmas.Slice.Eq.{bytes_eq-Decides}
use Rattle.a32_forms.specs.Cuts.{before_code}
use Rattle.a32_asm.specs.declared.places.LabelPlace.{LabelPlace}
use Rattle.a32_asm.specs.Layout.{place_in}
use Rattle.a32_asm.specs.inner.Places.{name_at, label_at, order_of, is_before, AreBefore}
use Rattle.a32_asm.proofs.CutTexts.{again, whole}
use Rattle.a32_asm.proofs.FirstPlaces.{none_found}
use Rattle.a32_asm.proofs.SortedPlaces.{same_names, has_name, place_found}

names_follow : (r s : Ordering) → is_lt (ordering_then r s) ≡ false → is_lt r ≡ false
names_follow Less s h = h
names_follow Equal s h = refl
names_follow Greater s h = refl

rank_less : (r : Ordering) → is_lt r ≡ true → ordering_index r ≡ 0
rank_less Less h = refl
rank_less Equal h = cc
rank_less Greater h = cc

less_rank : (r : Ordering) → ordering_index r ≡ 0 → is_lt r ≡ true
less_rank Less h = refl
less_rank Equal h = absurd (omega (arith, h))
less_rank Greater h = absurd (omega (arith, h))

rank_greater : (r : Ordering) → is_lt r ≡ false → is_ne r ≡ true → 2 ≤ ordering_index r
rank_greater Less h k = cc
rank_greater Equal h k = cc
rank_greater Greater h k = omega arith

equal_no_ne : (r : Ordering) → is_ne r ≡ false → is_eq r ≡ true
equal_no_ne Less h = cc
equal_no_ne Equal h = refl
equal_no_ne Greater h = cc

either : (k i : ℕ) → (k < i) ⊎ (i ≤ k)
either k zero = inr (omega arith)
either zero (suc i) = inl (omega arith)
either (suc k) (suc i) = ⊎_elim (λ h. inl (omega (arith, h))) (λ h. inr (omega (arith, h))) (either k i)

fails : (b : Bool) → (b ≡ true → ⊥) → b ≡ false
fails true h = absurd (h refl)
fails false h = refl

skip : (p : LabelPlace → Bool) (n : ℕ) (places : List LabelPlace) → ((k : ℕ) (d : LabelPlace) → k < n → k < length places → p (get_or places k d) ≡ false)
    → find p places ≡ find p (drop n places)
skip p zero places h = refl
skip p (suc n) [] h = refl
skip p (suc n) (y ∷ places) h =
    ap (λ b. cond b (Some y) (find p places)) (h 0 y (omega arith) (omega arith))
    ∙ skip p n places (λ k d lt within. h (suc k) d (omega (arith, lt)) (omega (arith, within)))

-- the order of a place's name beside another name
abbrev beside : List ℕ → List ℕ → LabelPlace → Ordering
beside text name z = slice_cmp nat_cmp (name_at text z) name

module _ (text name : List ℕ) (places : List LabelPlace) (sorted : IsSorted (order_of text) places) where
  abbrev rank : LabelPlace → ℕ
  rank z = ordering_index (beside text name z)

  ranks_rise : IsNonDecreasingBy rank places
  ranks_rise = searchable_from_sorted nat_list_cmp_total (name_at text) places name
      (λ k d low high. names_follow (slice_cmp nat_cmp (name_at text (get_or places (k + 1) d)) (name_at text (get_or places k d)))
      (nat_cmp (get_or places (k + 1) d).at (get_or places k d).at) (sorted k d low high))

  names_parted : IsPartitionedBy (is_before text name) places
  names_parted i j d le within h =
      let zero_there : rank (get_or places j d) ≡ 0 = rank_less (beside text name (get_or places j d)) h in
      let rise : rank (get_or places i d) ≤ rank (get_or places j d) = ranks_rise i j d le within in
      less_rank (beside text name (get_or places i d)) (omega (arith, zero_there, rise))

  one_if_named : (z : LabelPlace) → has_name text name z ≡ true → rank z ≡ 1
  one_if_named z h = ap ordering_index (same_names (name_at text z) name (sym ((bytes_eq-Decides name (name_at text z)).0 h)))

  unnamed : (z : LabelPlace) → (rank z ≡ 1 → ⊥) → has_name text name z ≡ false
  unnamed z h = fails (has_name text name z) (λ q. h (one_if_named z q))

  module _ (i : ℕ) (point : AreBefore text name places i) where
    front_unnamed : (k : ℕ) (d : LabelPlace) → k < i → has_name text name (get_or places k d) ≡ false
    front_unnamed k d h =
        let rank_there : rank (get_or places k d) ≡ 0 = rank_less (beside text name (get_or places k d)) (point.0 k d (omega arith) h) in
        unnamed (get_or places k d) (λ one. omega (arith, rank_there, one))

    pub none_past : length places ≤ i → place_in (map (label_at text) places) name ≡ None
    none_past h = place_found text name places
        ∙ none_found (has_name text name) places (recursion_from_All (λ z. has_name text name z ≡ false) places (λ k d lt. front_unnamed k d (omega (arith, h, lt))))

    module _ (y : LabelPlace) (within : i < length places) (is : (d : LabelPlace) → y ≡ get_or places i d) where
      not_before_y : is_before text name y ≡ false
      not_before_y = ap (is_before text name) (is y) ∙ point.1 i y (omega arith) within

      behind_unnamed : is_ne (beside text name y) ≡ true → (k : ℕ) (d : LabelPlace) → i ≤ k → k < length places → has_name text name (get_or places k d) ≡ false
      behind_unnamed h k d le lt =
          let two : 2 ≤ rank y = rank_greater (beside text name y) not_before_y h in
          let same : rank y ≡ rank (get_or places i d) = ap rank (is d) in
          let rise : rank (get_or places i d) ≤ rank (get_or places k d) = ranks_rise i k d le lt in
          unnamed (get_or places k d) (λ one. omega (arith, two, same, rise, one))

      pub none_here : is_ne (beside text name y) ≡ true → place_in (map (label_at text) places) name ≡ None
      none_here h = place_found text name places
          ∙ none_found (has_name text name) places (recursion_from_All (λ z. has_name text name z ≡ false) places
          (λ k d lt. ⊎_elim (front_unnamed k d) (λ le. behind_unnamed h k d le lt) (either k i)))

      pub found_here : is_ne (beside text name y) ≡ false → place_in (map (label_at text) places) name ≡ Some y
      found_here h =
          let equal : name_at text y ≡ name =
          (bytes_eq-Decides (name_at text y) name).0 (sym (is_eq-slice_cmp (name_at text y) name) ∙ equal_no_ne (beside text name y) h) in
          let passes_y : has_name text name y ≡ true = (bytes_eq-Decides name (name_at text y)).1 (sym equal) in
          place_found text name places
          ∙ skip (has_name text name) i places (λ k d lt inside. front_unnamed k d lt)
          ∙ ap (find (has_name text name)) (drop_more places i y within ∙ ap (λ z. z ∷ drop (i + 1) places) (sym (is y)))
          ∙ ap (λ b. cond b (Some y) (find (has_name text name) (drop (i + 1) places))) passes_y

-- what a search for the end of the names before a name ensures
pub before_from : {F : Type 0} {g : Mut F (Bor LabelPlace × Unit {0}) Bool} {f : F} (text name : List ℕ) (places shown : List LabelPlace) (i : ℕ) → shown ≡ places
    → IsSorted (order_of text) places
    → ((q : LabelPlace → Bool) → ComputesKey g q f → IsPartitionedBy q shown → IsPartitionPoint (λ z. q z ≡ true) (λ z. q z ≡ false) shown i)
    → ((a : Bor LabelPlace × Unit {0}) (r : Bool) (f' : F) → Called g f a r f' → (r ≡ is_before text name a.0.now) × (f' ≡ f))
    → AreBefore text name places i
before_from text name places shown i is sorted clause h =
    subst (λ l. AreBefore text name l i) is
    (IsPartitionPoint-from_clause (is_before text name) shown i clause (subst (IsPartitionedBy (is_before text name)) (sym is) (names_parted text name places sorted)) h)

-- ---- a name that has a colon

pub no_name : (text name : List ℕ) (places : List LabelPlace) → length (before_code 58 name) < length name → place_in (map (label_at text) places) name ≡ None
no_name text name places h =
    place_found text name places
    ∙ none_found (has_name text name) places (recursion_from_All (λ z. has_name text name z ≡ false) places (λ k d lt.
    fails (has_name text name (get_or places k d)) (λ q.
    let is : name ≡ name_at text (get_or places k d) = (bytes_eq-Decides name (name_at text (get_or places k d))).0 q in
    let same : before_code 58 name ≡ name = ap (before_code 58) is ∙ again 58 (drop (get_or places k d).at text) ∙ sym is in
    omega (arith, h, ap length same))))

-- ---- a name without one

module _ (text name : List ℕ) (places shown : List LabelPlace) (i : ℕ) (sorted : IsSorted (order_of text) places) (point : AreBefore text (before_code 58 name) places i)
    (no_colon : length name ≤ length (before_code 58 name)) (is : shown ≡ places) where
  named : (found : Option LabelPlace) → place_in (map (label_at text) places) (before_code 58 name) ≡ found → place_in (map (label_at text) places) name ≡ found
  named found h = ap (place_in (map (label_at text) places)) (sym (whole 58 name no_colon)) ∙ h

  pub no_place_past : length shown ≤ i → place_in (map (label_at text) places) name ≡ None
  no_place_past h = named None (none_past text (before_code 58 name) places sorted i point (subst (λ l. length l ≤ i) is h))

  module _ (y : LabelPlace) (found : (i < length shown) × ((d : LabelPlace) → y ≡ get_or shown i d)) where
    here : (i < length places) × ((d : LabelPlace) → y ≡ get_or places i d)
    here = subst (λ l. (i < length l) × ((d : LabelPlace) → y ≡ get_or l i d)) is found

    pub no_place_here : is_ne (beside text (before_code 58 name) y) ≡ true → place_in (map (label_at text) places) name ≡ None
    no_place_here h = named None (none_here text (before_code 58 name) places sorted i point y here.0 here.1 h)

    pub place_here : is_ne (beside text (before_code 58 name) y) ≡ false → place_in (map (label_at text) places) name ≡ Some y
    place_here h = named (Some y) (found_here text (before_code 58 name) places sorted i point y here.0 here.1 h)
