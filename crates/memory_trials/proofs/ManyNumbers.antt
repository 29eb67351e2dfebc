-- The numbers of many passes, as they are split off and joined.
use Rattle.std.proofs.Common.{◌≡◌, ◌≢◌, ◌⊎◌, ◌<◌, ◌+◌, ◌==◌, ◌&&◌, ◌||◌, not, ℕ, Bool, true, false, List, [], ◌∷◌, ◌++◌, nat_lt, refl, ap, sym, subst, ◌∙◌, inl, inr, arith}
use Rattle.std.specs.Cmp.{both_ways}
use Rattle.std.proofs.lemmas.Bool.{eq-eqb, eqb-true, lt-ltb, ltb-true, ne_eqb}
use Rattle.std.proofs.lemmas.List.Elements.{All-append, All-cons, All-nil}
use Rattle.std.proofs.lemmas.List.Folds.{list_any-append}
use Rattle.atomic_table.specs.Seated.{TableId}
use Rattle.shared_memory.specs.Origin.{Origin}
use Rattle.shared_memory.specs.Seen.{IsOneOf, IsSingle, all_but, joint}
use Rattle.memory_trials.specs.inner.Tried.{HasAll, MayAllLog, MayLog, numbers_of}

and_left : (a b : Bool) → (a && b) ≡ true → a ≡ true
and_left true b h = refl
and_left false b h = cc

and_right : (a b : Bool) → (a && b) ≡ true → b ≡ true
and_right true b h = h
and_right false b h = cc

and_both : (a b : Bool) → a ≡ true → b ≡ true → (a && b) ≡ true
and_both true b h k = k
and_both false b h k = cc

not_that : (t u : ℕ) → not (u == t) ≡ true → u ≢ t
not_that t u h same = let wrong : not true ≡ true = ap not (sym (eq-eqb u t same)) ∙ h in let e : ⊥ = cc in e

-- a pass has the numbers below one, and the highest of them is split off
pub one_less : (threads count t : ℕ) (old new : ℕ → Bool) → t + count ≡ threads → new ≡ all_but t old
    → ((u : ℕ) → old u ≡ nat_lt (u + count) (threads + 1)) → (u : ℕ) → new u ≡ nat_lt (u + (count + 1)) (threads + 1)
one_less threads count t old new last is left u =
    ap (λ (f : ℕ → Bool). f u) is ∙ ap (λ (b : Bool). b && not (u == t)) (left u)
    ∙ both_ways (nat_lt (u + count) (threads + 1) && not (u == t)) (nat_lt (u + (count + 1)) (threads + 1))
    (λ h.
    let less : u + count < threads + 1 = ltb-true (u + count) (threads + 1) (and_left (nat_lt (u + count) (threads + 1)) (not (u == t)) h) in
    let other : u ≢ t = not_that t u (and_right (nat_lt (u + count) (threads + 1)) (not (u == t)) h) in
    lt-ltb (u + (count + 1)) (threads + 1) (omega (arith, less, other, last)))
    (λ h.
    let less : u + (count + 1) < threads + 1 = ltb-true (u + (count + 1)) (threads + 1) h in
    let other : u ≢ t = (λ same. absurd (omega (arith, less, same, last))) in
    and_both (nat_lt (u + count) (threads + 1)) (not (u == t)) (lt-ltb (u + count) (threads + 1) (omega (arith, less))) (ap not (ne_eqb u t other)))

kept : (a b c e : Bool) → (a || b) ≡ true → (e ≡ true → c ≡ true) → ((a && not e) || (b || (c || false))) ≡ true
kept true true c true had has = refl
kept true false c true had has = ap (λ (d : Bool). d || false) (has refl)
kept true b c false had has = refl
kept false true c e had has = refl
kept false false c e had has = cc

or_left : (a b : Bool) → a ≡ true → (a || b) ≡ true
or_left true b h = refl
or_left false b h = cc

or_right : (a b : Bool) → b ≡ true → (a || b) ≡ true
or_right true b h = refl
or_right false b h = h

last_of : (a b c : Bool) → (a || (b || (c || false))) ≡ true → ((a || b) ≡ true) ⊎ (c ≡ true)
last_of true b c h = inl refl
last_of false true c h = inl refl
last_of false false true h = inr refl
last_of false false false h = cc

module _ {L P : Type 0} (numbers : P → ℕ → Bool) where
  -- each number is one of the pass or of those that were split off, also of one more
  pub all_kept : (t u : ℕ) (old new other : P) (log : L) (logged more : List (L × P)) → more ≡ logged ++ (log, other) ∷ []
      → numbers new ≡ all_but t (numbers old) → IsSingle t (numbers other)
      → IsOneOf u (joint (numbers old) (numbers_of numbers logged)) → IsOneOf u (joint (numbers new) (numbers_of numbers more))
  all_kept t u old new other log logged more pushed is single had =
      ap (λ (f : ℕ → Bool). f u || numbers_of numbers more u) is
      ∙ ap (λ (l : List (L × P)). (numbers old u && not (u == t)) || numbers_of numbers l u) pushed
      ∙ ap (λ (b : Bool). (numbers old u && not (u == t)) || b) (list_any-append (λ (one : L × P). numbers one.1 u) logged ((log, other) ∷ []))
      ∙ kept (numbers old u) (numbers_of numbers logged u) (numbers other u) (u == t) had (λ same. ap (numbers other) (eqb-true u t same) ∙ single.has)

  -- the pass of one and of the others but the last takes in that of the last
  pub has_more : (first : P) (last : L × P) (rest logged : List (L × P)) (ran done all : P) → logged ≡ rest ++ last ∷ []
      → HasAll numbers first rest ran → numbers done ≡ numbers last.1 → numbers all ≡ joint (numbers ran) (numbers done) → HasAll numbers first logged all
  has_more first last rest logged ran done all split has same joined t is =
      let each = ap (λ (b : Bool). numbers first t || b) (sym (list_any-append (λ (one : L × P). numbers one.1 t) rest (last ∷ [])))
      ∙ ap (λ (l : List (L × P)). numbers first t || numbers_of numbers l t) (sym split) ∙ is in
      ap (λ (f : ℕ → Bool). f t) joined ∙ either (last_of (numbers first t) (numbers_of numbers rest t) (numbers last.1 t) each)
    where
      either : ((numbers first t || numbers_of numbers rest t) ≡ true) ⊎ (numbers last.1 t ≡ true) → (numbers ran t || numbers done t) ≡ true
      either (inl before) = or_left (numbers ran t) (numbers done t) (has t before)
      either (inr here) = or_right (numbers ran t) (numbers done t) (ap (λ (f : ℕ → Bool). f t) same ∙ here)

-- one more may log its accesses
pub one_more : {L P : Type 0} (home : P → TableId) (numbers : P → ℕ → Bool) (mem : TableId) (origin : Origin) (log : L) (pass : P) (logged more : List (L × P))
    → more ≡ logged ++ (log, pass) ∷ [] → MayAllLog home numbers mem origin logged → MayLog home numbers mem origin pass → MayAllLog home numbers mem origin more
one_more {L = L} {P = P} home numbers mem origin log pass logged more pushed all may =
    subst (MayAllLog home numbers mem origin) (sym pushed)
    (All-append (λ (one : L × P). MayLog home numbers mem origin one.1) logged ((log, pass) ∷ []) all
    (All-cons (λ (one : L × P). MayLog home numbers mem origin one.1) (log, pass) [] may (All-nil (λ (one : L × P). MayLog home numbers mem origin one.1))))
