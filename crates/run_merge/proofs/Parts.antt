-- Lists: what a filter keeps, split at an element, and fronts.
use Rattle.std.proofs.Common.{◌≡◌, ◌<◌, ◌≤◌, Bool, true, false, List, [], ◌∷◌, ◌++◌, length, refl, sym, ap, subst, ◌∙◌, inl, inr, arith}
use Rattle.std.specs.List.{filter}
use Rattle.std.proofs.lemmas.Bool.{cases_Bool}
use Rattle.guest_calls.proofs.Splits.{same_head, same_tail}

-- ---- what a filter keeps

pub filter_yes : {A : Type 0} (p : A → Bool) (x : A) (xs : List A) → p x ≡ true → filter p (x ∷ xs) ≡ x ∷ filter p xs
filter_yes p x xs is_so = rw is_so refl

pub filter_no : {A : Type 0} (p : A → Bool) (x : A) (xs : List A) → p x ≡ false → filter p (x ∷ xs) ≡ filter p xs
filter_no p x xs isnt = rw isnt refl

-- a list around an element that a filter keeps
pub record SplitsAt {A : Type 0} (p : A → Bool) (all front : List A) (x : A) (back : List A) : Type 0 where
  pub before : List A
  pub after : List A
  pub are : all ≡ before ++ x ∷ after
  pub kept : p x ≡ true
  pub early : filter p before ≡ front
  pub late : filter p after ≡ back

module _ {A : Type 0} (p : A → Bool) where
  split_kept : (y : A) (all front : List A) (x : A) (back : List A) → p y ≡ true → SplitsAt p all front x back → SplitsAt p (y ∷ all) (y ∷ front) x back
  split_kept y all front x back is_so at = record {
    before = y ∷ at.before;
    after = at.after;
    are = ap (λ l. y ∷ l) at.are;
    kept = at.kept;
    early = filter_yes p y at.before is_so ∙ ap (λ l. y ∷ l) at.early;
    late = at.late;
  }

  split_left : (y : A) (all front : List A) (x : A) (back : List A) → p y ≡ false → SplitsAt p all front x back → SplitsAt p (y ∷ all) front x back
  split_left y all front x back isnt at = record {
    before = y ∷ at.before;
    after = at.after;
    are = ap (λ l. y ∷ l) at.are;
    kept = at.kept;
    early = filter_no p y at.before isnt ∙ at.early;
    late = at.late;
  }

  split_here : (y : A) (all : List A) (x : A) (back : List A) → p y ≡ true → y ∷ filter p all ≡ x ∷ back → SplitsAt p (y ∷ all) [] x back
  split_here y all x back is_so is = record {
    before = [];
    after = all;
    are = ap (λ z. z ∷ all) (same_head y x (filter p all) back is);
    kept = subst (λ z. p z ≡ true) (same_head y x (filter p all) back is) is_so;
    early = refl;
    late = same_tail y x (filter p all) back is;
  }

  pub split_filter : (all front : List A) (x : A) (back : List A) → filter p all ≡ front ++ x ∷ back → SplitsAt p all front x back
  split_filter [] [] x back is = cc
  split_filter [] (f ∷ front) x back is = cc
  split_filter (y ∷ all) [] x back is = elim (cases_Bool (p y)) [
    | inl is_so ↦ split_here y all x back is_so (sym (filter_yes p y all is_so) ∙ is)
    | inr isnt ↦ split_left y all [] x back isnt (split_filter all [] x back (sym (filter_no p y all isnt) ∙ is))
  ]
  split_filter (y ∷ all) (f ∷ front) x back is = elim (cases_Bool (p y)) [
    | inl is_so ↦
        let both : y ∷ filter p all ≡ f ∷ (front ++ x ∷ back) = sym (filter_yes p y all is_so) ∙ is in
        subst (λ g. SplitsAt p (y ∷ all) (g ∷ front) x back) (same_head y f (filter p all) (front ++ x ∷ back) both)
        (split_kept y all front x back is_so (split_filter all front x back (same_tail y f (filter p all) (front ++ x ∷ back) both)))
    | inr isnt ↦ split_left y all (f ∷ front) x back isnt (split_filter all (f ∷ front) x back (sym (filter_no p y all isnt) ∙ is))
  ]

-- ---- two fronts of one list

module _ {A : Type 0} where
  -- that are as long are the same
  pub same_front : (one other : List A) (rest left : List A) → one ++ rest ≡ other ++ left → length one ≡ length other → one ≡ other
  same_front [] [] rest left is long = refl
  same_front [] (o ∷ other) rest left is long = absurd (omega (arith, long))
  same_front (x ∷ one) [] rest left is long = absurd (omega (arith, long))
  same_front (x ∷ one) (o ∷ other) rest left is long =
      let shorter : length one ≡ length other = omega (arith, long) in
      ap (λ z. z ∷ one) (same_head x o (one ++ rest) (other ++ left) is)
      ∙ ap (λ l. o ∷ l) (same_front one other rest left (same_tail x o (one ++ rest) (other ++ left) is) shorter)

  pub same_back : (one : List A) (rest left : List A) → one ++ rest ≡ one ++ left → rest ≡ left
  same_back [] rest left is = is
  same_back (x ∷ one) rest left is = same_back one rest left (same_tail x x (one ++ rest) (one ++ left) is)

  -- the shorter is a front of the longer
  pub front_in : (one other : List A) (rest left : List A) → one ++ rest ≡ other ++ left → length one ≤ length other
      → (more : List A) × (other ≡ one ++ more)
  front_in [] other rest left is short = (other, refl)
  front_in (x ∷ one) [] rest left is short = absurd (omega (arith, short))
  front_in (x ∷ one) (o ∷ other) rest left is short =
      let less : length one ≤ length other = omega (arith, short) in
      let found = front_in one other rest left (same_tail x o (one ++ rest) (other ++ left) is) less in
      (found.0, ap (λ z. z ∷ other) (sym (same_head x o (one ++ rest) (other ++ left) is)) ∙ ap (λ l. x ∷ l) found.1)

  -- a list that begins a longer one, with one element more
  pub next_in : (one other : List A) (x : A) (rest left : List A) → one ++ x ∷ rest ≡ other ++ left → length one < length other
      → (more : List A) × (other ≡ one ++ x ∷ more)
  next_in [] [] x rest left is short = absurd (omega (arith, short))
  next_in [] (o ∷ other) x rest left is short = (other, ap (λ z. z ∷ other) (sym (same_head x o rest (other ++ left) is)))
  next_in (y ∷ one) [] x rest left is short = absurd (omega (arith, short))
  next_in (y ∷ one) (o ∷ other) x rest left is short =
      let less : length one < length other = omega (arith, short) in
      let found = next_in one other x rest left (same_tail y o (one ++ x ∷ rest) (other ++ left) is) less in
      (found.0, ap (λ z. z ∷ other) (sym (same_head y o (one ++ x ∷ rest) (other ++ left) is)) ∙ ap (λ l. y ∷ l) found.1)
