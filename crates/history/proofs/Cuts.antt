-- What is so of each entry of a history: of none, of one more, and of a front.
use Rattle.std.proofs.Common.{◌≡◌, ◌⊎◌, List, [], ◌∷◌, ◌++◌, refl, sym, ap, subst, ◌∙◌, inl, inr, append_assoc, append-nil}
use Rattle.history.specs.Each.{IsOfEach}
use Rattle.history.specs.declared.entry.Entry.{Entry}

-- ---- where a list is cut that has one more entry

-- before its last entry
record IsLast (history : List Entry) (last : Entry) (past : List Entry) (entry : Entry) : Type 0 where
  all : past ≡ history
  is : entry ≡ last

-- or earlier
record IsEarlier (history past : List Entry) (entry : Entry) : Type 0 where
  later : List Entry
  are : history ≡ past ++ (entry ∷ later)

no_entries : (past : List Entry) (entry : Entry) (rest : List Entry) → [] ≡ past ++ (entry ∷ rest) → ⊥
no_entries [] entry rest same = cc
no_entries (first ∷ past) entry rest same = cc

cut : (history : List Entry) (last : Entry) (past : List Entry) (entry : Entry) (rest : List Entry) → history ++ last ∷ [] ≡ past ++ (entry ∷ rest)
    → IsLast history last past entry ⊎ IsEarlier history past entry
cut [] last [] entry rest same = inl (record { all = refl; is = cc })
cut [] last (first ∷ past) entry rest same = absurd (no_entries past entry rest cc)
cut (first ∷ history) last [] entry rest same = inr (record { later = history; are = let is : first ≡ entry = cc in ap (λ (e : Entry). e ∷ history) is })
cut (first ∷ history) last (one ∷ past) entry rest same =
    let is : first ≡ one = cc in
    elim (cut history last past entry rest cc) [
      | inl at ↦ inl (record { all = ap (λ (e : Entry). e ∷ past) (sym is) ∙ ap (λ (es : List Entry). first ∷ es) at.all; is = at.is })
      | inr at ↦ inr (record { later = at.later; are = ap (λ (e : Entry). e ∷ history) is ∙ ap (λ (es : List Entry). one ∷ es) at.are })
    ]

-- ---- something is so of each entry

pub each-none : (is : List Entry → Entry → Type 0) → IsOfEach is []
each-none is past entry rest same = absurd (no_entries past entry rest same)

pub each-more : (is : List Entry → Entry → Type 0) (history : List Entry) (entry : Entry) → IsOfEach is history → is history entry
    → IsOfEach is (history ++ entry ∷ [])
each-more is history last each one past entry rest same = elim (cut history last past entry rest same) [
  | inl at ↦
      let P : List Entry → Type 0 = λ h. is h entry in
      let Q : Entry → Type 0 = λ e. is history e in
      subst P (sym at.all) (subst Q (sym at.is) one)
  | inr at ↦ each past entry at.later at.are
]

-- two more
pub each-two : (is : List Entry → Entry → Type 0) (history : List Entry) (one two : Entry) → IsOfEach is history → is history one
    → is (history ++ one ∷ []) two → IsOfEach is (history ++ one ∷ two ∷ [])
each-two is history one two each first second =
    subst (IsOfEach is) (append_assoc history (one ∷ []) (two ∷ []))
    (each-more is (history ++ one ∷ []) two (each-more is history one each first) second)

-- no more
pub each-still : (is : List Entry → Entry → Type 0) (history : List Entry) → IsOfEach is history → IsOfEach is (history ++ [])
each-still is history each = subst (IsOfEach is) (sym (append-nil history)) each

pub each-front : (is : List Entry → Entry → Type 0) (front back : List Entry) → IsOfEach is (front ++ back) → IsOfEach is front
each-front is front back each past entry rest same =
    each past entry (rest ++ back) (ap (λ (es : List Entry). es ++ back) same ∙ append_assoc past (entry ∷ rest) back)

-- of the last of them
pub each-last : (is : List Entry → Entry → Type 0) (history : List Entry) (entry : Entry) → IsOfEach is (history ++ entry ∷ []) → is history entry
each-last is history entry each = each history entry [] refl
