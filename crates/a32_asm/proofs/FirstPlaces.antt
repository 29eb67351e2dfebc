-- The first place that passes a test, among places that rise and among the same in another order.
use Rattle.std.proofs.Common.{◌≡◌, ◌≤◌, ◌<◌, ◌+◌, ℕ, suc, Bool, true, false, cond, List, [], ◌∷◌, length, get_or, Option, Some, None, refl, sym, ap, ◌∙◌, subst, arith}
use Rattle.std.specs.List.{find, AllByRecursion as Each}
use Rattle.std.specs.List.Sorted.{IsPermutation}
use Rattle.std.proofs.lemmas.List.Elements.{All-from_recursion, recursion_from_All}
use Rattle.std.proofs.lemmas.List.Sorted.{All-permutation, IsPermutation-sym}
use Rattle.a32_asm.specs.declared.places.LabelPlace.{LabelPlace}
use Rattle.a32_asm.specs.inner.Places.{Rise}

-- ---- what holds of each place

each_weaker : (P Q : LabelPlace → Type 0) → ((z : LabelPlace) → P z → Q z) → (places : List LabelPlace) → Each P places → Each Q places
each_weaker P Q weaker [] all = tt
each_weaker P Q weaker (z ∷ places) all = (weaker z all.0, each_weaker P Q weaker places all.1)

each_moved : (P : LabelPlace → Type 0) (xs ys : List LabelPlace) → IsPermutation xs ys → Each P xs → Each P ys
each_moved P xs ys moved all = recursion_from_All P ys (All-permutation P xs ys moved (All-from_recursion P xs all))

each_behind : (least from : ℕ) (places : List LabelPlace) → least ≤ from → Rise from places → Each (λ z. least ≤ z.at) places
each_behind least from [] le rise = tt
each_behind least from (z ∷ places) le rise = (omega (arith, le, rise.0), each_behind least (z.at + 1) places (omega (arith, le, rise.0)) rise.1)

-- ---- the first that passes a test

found_cases : {G : Type 0} (b : Bool) (y x : LabelPlace) (rest : Option LabelPlace) → cond b (Some y) rest ≡ Some x
    → (b ≡ true → y ≡ x → G) → (b ≡ false → rest ≡ Some x → G) → G
found_cases true y x rest h here later = here refl cc
found_cases false y x rest h here later = later refl h

module _ (p : LabelPlace → Bool) where
  found_in : (P : LabelPlace → Type 0) (places : List LabelPlace) (x : LabelPlace) → Each P places → find p places ≡ Some x → P x
  found_in P [] x all h = cc
  found_in P (y ∷ places) x all h =
      found_cases (p y) y x (find p places) h (λ is same. subst P same all.0) (λ is later. found_in P places x all.1 later)

  passes : (places : List LabelPlace) (x : LabelPlace) → find p places ≡ Some x → p x ≡ true
  passes [] x h = cc
  passes (y ∷ places) x h =
      found_cases (p y) y x (find p places) h (λ is same. ap p (sym same) ∙ is) (λ is later. passes places x later)

  none_pass : (b : Bool) (y : LabelPlace) (rest : Option LabelPlace) → cond b (Some y) rest ≡ None → (b ≡ false) × (rest ≡ None)
  none_pass true y rest h = cc
  none_pass false y rest h = (refl, h)

  each_fails : (places : List LabelPlace) → find p places ≡ None → Each (λ z. p z ≡ false) places
  each_fails [] h = tt
  each_fails (y ∷ places) h = let both = none_pass (p y) y (find p places) h in (both.0, each_fails places both.1)

  pub none_found : (places : List LabelPlace) → Each (λ z. p z ≡ false) places → find p places ≡ None
  none_found [] all = refl
  none_found (y ∷ places) all = ap (λ b. cond b (Some y) (find p places)) all.0 ∙ none_found places all.1

  abbrev Leads : LabelPlace → LabelPlace → Type 0
  Leads x z = p z ≡ true → x.at ≤ z.at

  first_leads : (least : ℕ) (places : List LabelPlace) (x : LabelPlace) → Rise least places → find p places ≡ Some x → Each (Leads x) places
  first_leads least [] x rise h = tt
  first_leads least (y ∷ places) x rise h =
      found_cases (p y) y x (find p places) h
      (λ is same. let e : y.at ≡ x.at = ap (λ z. z.at) same in
      (λ q. omega (arith, e), each_weaker (λ z. y.at + 1 ≤ z.at) (Leads x) (λ z le q. omega (arith, e, le)) places (each_behind (y.at + 1) (y.at + 1) places (omega arith) rise.1)))
      (λ is later. (λ q. let e : true ≡ false = sym q ∙ is in cc, first_leads (y.at + 1) places x rise.1 later))

  -- no other place stands where the first does
  alone : (least : ℕ) (places : List LabelPlace) (x : LabelPlace) → Rise least places → find p places ≡ Some x → Each (λ z. z.at ≡ x.at → z ≡ x) places
  alone least [] x rise h = tt
  alone least (y ∷ places) x rise h =
      let behind : Each (λ z. y.at + 1 ≤ z.at) places = each_behind (y.at + 1) (y.at + 1) places (omega arith) rise.1 in
      found_cases (p y) y x (find p places) h
      (λ is same. let e : y.at ≡ x.at = ap (λ z. z.at) same in
      (λ q. same, each_weaker (λ z. y.at + 1 ≤ z.at) (λ z. z.at ≡ x.at → z ≡ x) (λ z le q. absurd (omega (arith, e, le, q))) places behind))
      (λ is later. (λ q. absurd (let le : y.at + 1 ≤ x.at = found_in (λ z. y.at + 1 ≤ z.at) places x behind later in omega (arith, le, q)), alone (y.at + 1) places x rise.1 later))

  module _ (lt : LabelPlace → LabelPlace → Bool) (closer : (x z : LabelPlace) → p x ≡ true → p z ≡ true → lt z x ≡ false → x.at ≤ z.at) where
    abbrev Ordered : List LabelPlace → Type 0
    Ordered [] = Unit {0}
    Ordered (x ∷ places) = Each (λ z. lt z x ≡ false) places × Ordered places

    pub ordered : (places : List LabelPlace) → ((i j : ℕ) (d : LabelPlace) → i ≤ j → j < length places → lt (get_or places j d) (get_or places i d) ≡ false) → Ordered places
    ordered [] far = tt
    ordered (x ∷ places) far = (
      recursion_from_All (λ z. lt z x ≡ false) places (λ k d h. far 0 (suc k) d (omega arith) (omega (arith, h))),
      ordered places (λ i j d le h. far (suc i) (suc j) d (omega (arith, le)) (omega (arith, h))),
    )

    sorted_leads : (places : List LabelPlace) (x : LabelPlace) → Ordered places → find p places ≡ Some x → Each (Leads x) places
    sorted_leads [] x up h = tt
    sorted_leads (y ∷ places) x up h =
        found_cases (p y) y x (find p places) h
        (λ is same. let e : y.at ≡ x.at = ap (λ z. z.at) same in
        (λ q. omega (arith, e), each_weaker (λ z. lt z y ≡ false) (Leads x) (λ z n q. let le : y.at ≤ z.at = closer y z is q n in omega (arith, e, le)) places up.0))
        (λ is later. (λ q. let e : true ≡ false = sym q ∙ is in cc, sorted_leads places x up.1 later))

    module _ (xs ys : List LabelPlace) (rise : Rise 0 xs) (moved : IsPermutation xs ys) (up : Ordered ys) where
      first_if : (a b : Option LabelPlace) → find p xs ≡ a → find p ys ≡ b → b ≡ a
      first_if None b e f = sym f ∙ none_found ys (each_moved (λ z. p z ≡ false) xs ys moved (each_fails xs e))
      first_if (Some x) None e f =
          let fails : p x ≡ false = found_in (λ z. p z ≡ false) xs x (each_moved (λ z. p z ≡ false) ys xs (IsPermutation-sym xs ys moved) (each_fails ys f)) e in
          let c : true ≡ false = sym (passes xs x e) ∙ fails in cc
      first_if (Some x) (Some y) e f =
          let one : x.at ≤ y.at = found_in (Leads x) ys y (each_moved (Leads x) xs ys moved (first_leads 0 xs x rise e)) f (passes ys y f) in
          let two : y.at ≤ x.at = found_in (Leads y) xs x (each_moved (Leads y) ys xs (IsPermutation-sym xs ys moved) (sorted_leads ys y up f)) e (passes xs x e) in
          let at : y.at ≡ x.at = omega (arith, one, two) in
          ap Some (found_in (λ z. z.at ≡ x.at → z ≡ x) ys y (each_moved (λ z. z.at ≡ x.at → z ≡ x) xs ys moved (alone 0 xs x rise e)) f at)

      pub same_first : find p ys ≡ find p xs
      same_first = first_if (find p xs) (find p ys) refl refl
