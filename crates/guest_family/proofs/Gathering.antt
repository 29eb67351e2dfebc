-- First threads that have ended, each with those that it has started, taken together one after another.
use Rattle.std.proofs.Common.{◌≡◌, ℕ, Bool, List, [], ◌∷◌, ◌++◌, reverse, refl, sym, subst, ap, ◌∙◌, append-nil}
use Rattle.std.specs.List.{flat_map}
use Rattle.std.proofs.lemmas.Grind.{flat_map-append}
use Rattle.std.proofs.lemmas.List.{map-append}
use Rattle.std.proofs.lemmas.List.Elements.{All-cons, All-head, All-nil, All-tail}
use Rattle.atomic_table.specs.Seated.{TableId}
use Rattle.llsc_base.specs.Images.{Program}
use Rattle.history.specs.Starts.{Started, starts_in}
use Rattle.history.specs.declared.entry.Entry.{Entry}
use Rattle.shared_memory.specs.Origin.{Origin}
use Rattle.shared_memory.specs.Seen.{IsFront, IsOneOf, SaysAllOf, joint}
use Rattle.guest_thread.specs.inner.Crews.{AreTaken}
use Rattle.guest_thread.specs.Start.{thread_start}
use Rattle.guest_thread.specs.declared.ends.GuestEnd.{GuestEnd}
use Rattle.guest_family.specs.inner.EndedStarters.{AreChildren, AreHeads, HasEndedWithAll, HaveEndedWithAll, numbers_of, started_by_all}
use Rattle.guest_family.specs.Kin.{own_numbers}
use Rattle.guest_family.specs.inner.UnderWay.{IsEndFrom}
use Rattle.guest_family.specs.declared.families.Gathered.{Gathered}
use Rattle.guest_family.specs.declared.starters.StarterEnd.{StarterEnd}
use Rattle.guest_family.proofs.Combined.{joint_left, joint_right, taken_by}
use Rattle.guest_family.proofs.Later.{children_later, end_later, heads_later, same_starts}
use Rattle.a32_step.specs.Machine.{a32}

-- ---- one behind others

children_more : (program : Program) (origin : Origin) (budget : ℕ) (history : List Entry) (all more : List Started) (ends others : List GuestEnd)
    → AreChildren program origin budget history all ends → AreChildren program origin budget history more others
    → AreChildren program origin budget history (all ++ more) (ends ++ others)
children_more program origin budget history [] more [] others are also = also
children_more program origin budget history [] more (end ∷ ends) others are also = absurd are
children_more program origin budget history (one ∷ all) more [] others are also = absurd are
children_more program origin budget history (one ∷ all) more (end ∷ ends) others are also =
    (are.0, children_more program origin budget history all more ends others are.1 also)

heads_more : (program : Program) (origin : Origin) (budget : ℕ) (history : List Entry) (ts : List ℕ) (ends : List GuestEnd) (t : ℕ) (end : GuestEnd)
    → AreHeads program origin budget history ts ends → IsEndFrom program origin budget t (thread_start a32 program origin.size origin.first t) history end
    → AreHeads program origin budget history (ts ++ t ∷ []) (ends ++ end ∷ [])
heads_more program origin budget history [] [] t last are is = (is, tt)
heads_more program origin budget history [] (end ∷ ends) t last are is = absurd are
heads_more program origin budget history (u ∷ ts) [] t last are is = absurd are
heads_more program origin budget history (u ∷ ts) (end ∷ ends) t last are is = (are.0, heads_more program origin budget history ts ends t last are.1 is)

taken_more : (numbers : ℕ → Bool) (ts us : List ℕ) → AreTaken numbers ts → AreTaken numbers us → AreTaken numbers (ts ++ us)
taken_more numbers [] us these those = those
taken_more numbers (t ∷ ts) us these those =
    All-cons (λ u. IsOneOf u numbers) t (ts ++ us) (All-head (λ u. IsOneOf u numbers) t ts these)
    (taken_more numbers ts us (All-tail (λ u. IsOneOf u numbers) t ts these) those)

-- threads that have no more entries have started no more
same_all : (numbers : ℕ → Bool) (old new : List Entry) (ts : List ℕ) → SaysAllOf numbers old new → AreTaken numbers ts → started_by_all ts new ≡ started_by_all ts old
same_all numbers old new [] says taken = refl
same_all numbers old new (t ∷ ts) says taken =
    ap (λ (xs : List Started). xs ++ started_by_all ts new) (same_starts t old new (says t (All-head (λ u. IsOneOf u numbers) t ts taken)))
    ∙ ap (λ (xs : List Started). starts_in t old ++ xs) (same_all numbers old new ts says (All-tail (λ u. IsOneOf u numbers) t ts taken))

behind : {A : Type 0} (f : ℕ → List A) (ts : List ℕ) (t : ℕ) → flat_map f (ts ++ t ∷ []) ≡ flat_map f ts ++ f t
behind f ts t = flat_map-append f ts (t ∷ []) ∙ ap (λ xs. flat_map f ts ++ xs) (append-nil (f t))

module _ {P : Type 0} (home : P → TableId) (numbers : P → ℕ → Bool) (seen : P → List Entry) (mem : TableId) (origin : Origin) (program : Program) (budget t : ℕ) where
  -- the first
  pub gathered_first : (ended : StarterEnd P) (new : Gathered P) → HasEndedWithAll home numbers seen mem origin program budget t [] (own_numbers origin.first origin.spare t) ended
      → new.pass ≡ ended.ran.pass → new.ends.items ≡ ended.end ∷ [] → new.children.items ≡ reverse ended.ran.ends.items
      → HaveEndedWithAll home numbers seen mem origin program budget (t ∷ []) new
  gathered_first ended new is pass ends children =
      let all : started_by_all (t ∷ []) (seen ended.ran.pass) ≡ is.more = append-nil (starts_in t (seen ended.ran.pass)) ∙ is.starts in
      let own = own_numbers origin.first origin.spare t in
      record {
        memory = ap home pass ∙ is.memory;
        own = subst (λ (p : P). AreTaken (numbers p) (t ∷ [])) (sym pass) (All-cons (λ u. IsOneOf u (numbers ended.ran.pass)) t [] is.own (All-nil (λ u. IsOneOf u (numbers ended.ran.pass))));
        taken = subst (λ (p : P). AreTaken (numbers p) (own ++ [])) (sym pass) (subst (AreTaken (numbers ended.ran.pass)) (sym (append-nil own)) is.taken);
        heads = subst (λ (p : P). AreHeads program origin budget (seen p) (t ∷ []) new.ends.items) (sym pass)
            (subst (AreHeads program origin budget (seen ended.ran.pass) (t ∷ [])) (sym ends) (is.head, tt));
        children = subst (λ (p : P). AreChildren program origin budget (seen p) (started_by_all (t ∷ []) (seen p)) new.children.items) (sym pass)
            (subst (λ (ss : List Started). AreChildren program origin budget (seen ended.ran.pass) ss new.children.items) (sym all)
            (subst (AreChildren program origin budget (seen ended.ran.pass) is.more) (sym children) is.children));
        among = subst (λ (p : P). AreTaken (numbers p) (numbers_of (started_by_all (t ∷ []) (seen p)))) (sym pass)
            (subst (λ (ss : List Started). AreTaken (numbers ended.ran.pass) (numbers_of ss)) (sym all) is.among);
      }

  -- one more
  pub gathered_more : (ts : List ℕ) (gathered new : Gathered P) (ended : StarterEnd P) → HaveEndedWithAll home numbers seen mem origin program budget ts gathered
      → HasEndedWithAll home numbers seen mem origin program budget t [] (own_numbers origin.first origin.spare t) ended
      → home new.pass ≡ mem → numbers new.pass ≡ joint (numbers gathered.pass) (numbers ended.ran.pass)
      → IsFront (seen gathered.pass) (seen new.pass) × IsFront (seen ended.ran.pass) (seen new.pass)
      → SaysAllOf (numbers gathered.pass) (seen gathered.pass) (seen new.pass) → SaysAllOf (numbers ended.ran.pass) (seen ended.ran.pass) (seen new.pass)
      → new.ends.items ≡ gathered.ends.items ++ ended.end ∷ [] → new.children.items ≡ gathered.children.items ++ reverse ended.ran.ends.items
      → HaveEndedWithAll home numbers seen mem origin program budget (ts ++ t ∷ []) new
  gathered_more ts gathered new ended have has memory joined fronts mine yours ends children =
      let left : (u : ℕ) → IsOneOf u (numbers gathered.pass) → IsOneOf u (numbers new.pass) = λ u had. joint_left (numbers gathered.pass) (numbers ended.ran.pass) (numbers new.pass) u joined had in
      let right : (u : ℕ) → IsOneOf u (numbers ended.ran.pass) → IsOneOf u (numbers new.pass) = λ u had. joint_right (numbers gathered.pass) (numbers ended.ran.pass) (numbers new.pass) u joined had in
      let own = own_numbers origin.first origin.spare in
      let here : starts_in t (seen new.pass) ≡ has.more = same_starts t (seen ended.ran.pass) (seen new.pass) (yours t has.own) ∙ has.starts in
      let all : started_by_all (ts ++ t ∷ []) (seen new.pass) ≡ started_by_all ts (seen gathered.pass) ++ has.more =
      behind (λ u. starts_in u (seen new.pass)) ts t
      ∙ ap (λ (xs : List Started). xs ++ starts_in t (seen new.pass)) (same_all (numbers gathered.pass) (seen gathered.pass) (seen new.pass) ts mine have.own)
      ∙ ap (λ (xs : List Started). started_by_all ts (seen gathered.pass) ++ xs) here in
      record {
        memory = memory;
        own = taken_more (numbers new.pass) ts (t ∷ []) (taken_by (numbers gathered.pass) (numbers new.pass) ts left have.own)
            (All-cons (λ u. IsOneOf u (numbers new.pass)) t [] (right t has.own) (All-nil (λ u. IsOneOf u (numbers new.pass))));
        taken = subst (AreTaken (numbers new.pass)) (sym (behind own ts t)) (taken_more (numbers new.pass) (flat_map own ts) (own t)
            (taken_by (numbers gathered.pass) (numbers new.pass) (flat_map own ts) left have.taken) (taken_by (numbers ended.ran.pass) (numbers new.pass) (own t) right has.taken));
        heads = subst (AreHeads program origin budget (seen new.pass) (ts ++ t ∷ [])) (sym ends) (heads_more program origin budget (seen new.pass) ts gathered.ends.items t ended.end
            (heads_later program origin budget (seen gathered.pass) (seen new.pass) (numbers gathered.pass) ts gathered.ends.items fronts.0 mine have.own have.heads)
            (end_later program origin budget t (thread_start a32 program origin.size origin.first t) (seen ended.ran.pass) (seen new.pass) ended.end fronts.1 (yours t has.own) has.head));
        children = subst (λ (ss : List Started). AreChildren program origin budget (seen new.pass) ss new.children.items) (sym all)
            (subst (AreChildren program origin budget (seen new.pass) (started_by_all ts (seen gathered.pass) ++ has.more)) (sym children)
            (children_more program origin budget (seen new.pass) (started_by_all ts (seen gathered.pass)) has.more gathered.children.items (reverse ended.ran.ends.items)
            (children_later program origin budget (seen gathered.pass) (seen new.pass) (numbers gathered.pass) (started_by_all ts (seen gathered.pass)) gathered.children.items fronts.0 mine have.among have.children)
            (children_later program origin budget (seen ended.ran.pass) (seen new.pass) (numbers ended.ran.pass) has.more (reverse ended.ran.ends.items) fronts.1 yours has.among has.children)));
        among = subst (λ (ss : List Started). AreTaken (numbers new.pass) (numbers_of ss)) (sym all)
            (subst (AreTaken (numbers new.pass)) (sym (map-append (λ (s : Started). s.child) (started_by_all ts (seen gathered.pass)) has.more))
            (taken_more (numbers new.pass) (numbers_of (started_by_all ts (seen gathered.pass))) (numbers_of has.more)
            (taken_by (numbers gathered.pass) (numbers new.pass) (numbers_of (started_by_all ts (seen gathered.pass))) left have.among)
            (taken_by (numbers ended.ran.pass) (numbers new.pass) (numbers_of has.more) right has.among)));
      }
