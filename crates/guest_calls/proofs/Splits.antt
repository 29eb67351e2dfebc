-- Lists that are split at an element.
use Rattle.std.proofs.Common.{◌≡◌, List, [], ◌∷◌, ◌++◌, refl, ap, sym}

-- the heads, and the tails, of two lists that are the same
pub same_head : {A : Type 0} (x y : A) (xs ys : List A) → x ∷ xs ≡ y ∷ ys → x ≡ y
same_head x y xs ys e = cc

pub same_tail : {A : Type 0} (x y : A) (xs ys : List A) → x ∷ xs ≡ y ∷ ys → xs ≡ ys
same_tail x y xs ys e = cc

-- of two splits of a list the one is where the other is, before it, or behind it
pub data Meets {A : Type 0} (front : List A) (x : A) (back : List A) (other : List A) (y : A) (rest : List A) : Type 0 where
  at_it : front ≡ other → x ≡ y → Meets front x back other y rest
  before_it : (middle : List A) → other ≡ front ++ x ∷ middle → back ≡ middle ++ y ∷ rest → Meets front x back other y rest
  behind_it : (middle : List A) → front ≡ other ++ y ∷ middle → rest ≡ middle ++ x ∷ back → Meets front x back other y rest

-- the same with one more element before each
one_more : {A : Type 0} (f : A) (front : List A) (x : A) (back : List A) (o : A) (other : List A) (y : A) (rest : List A)
    → f ≡ o → Meets front x back other y rest → Meets (f ∷ front) x back (o ∷ other) y rest
one_more f front x back o other y rest same (at_it fronts elements) = at_it (cc) elements
one_more f front x back o other y rest same (before_it middle others backs) = before_it middle (cc) backs
one_more f front x back o other y rest same (behind_it middle fronts rests) = behind_it middle (cc) rests

pub meets : {A : Type 0} (front : List A) (x : A) (back : List A) (other : List A) (y : A) (rest : List A)
    → front ++ x ∷ back ≡ other ++ y ∷ rest → Meets front x back other y rest
meets [] x back [] y rest e = at_it refl (same_head x y back rest e)
meets [] x back (o ∷ other) y rest e =
    before_it other (ap (λ a. a ∷ other) (sym (same_head x o back (other ++ y ∷ rest) e))) (same_tail x o back (other ++ y ∷ rest) e)
meets (f ∷ front) x back [] y rest e =
    behind_it front (ap (λ a. a ∷ front) (same_head f y (front ++ x ∷ back) rest e)) (sym (same_tail f y (front ++ x ∷ back) rest e))
meets (f ∷ front) x back (o ∷ other) y rest e =
    one_more f front x back o other y rest (same_head f o (front ++ x ∷ back) (other ++ y ∷ rest) e)
    (meets front x back other y rest (same_tail f o (front ++ x ∷ back) (other ++ y ∷ rest) e))

-- nothing stands behind the last element
pub none_behind : {A : Type 0} (middle : List A) (x : A) (back : List A) → [] ≡ middle ++ x ∷ back → ⊥
none_behind [] x back e = cc
none_behind (m ∷ middle) x back e = cc
