-- The ends of all guests are put in order.
use Rattle.std.proofs.Common.{◌≡◌, ℕ, zero, suc, ◌+◌, ◌-◌, ◌<◌, ◌≤◌, Bool, List, [], ◌∷◌, ◌++◌, sum_by, ap, arith, subst, sym, ◌∙◌, refl}
use Rattle.std.specs.List.{range_with_len}
use Rattle.std.proofs.lemmas.List.Elements.{All-cons, All-nil}
use Rattle.std.proofs.lemmas.List.Sums.{sum_by-cons, sum_by_push}
use Rattle.atomic_table.specs.Seated.{TableId}
use Rattle.history.specs.declared.entry.Entry.{Entry}
use Rattle.shared_memory.specs.Origin.{Origin}
use Rattle.shared_memory.specs.Seen.{IsFront, IsOneOf, SaysAllOf, joint}
use Rattle.guest_thread.specs.inner.Crews.{AreEndsOf, AreTaken, IsEndOf}
use Rattle.guest_thread.specs.declared.ends.GuestEnd.{GuestEnd}
use Rattle.a32_step.specs.Machine.{a32}
use Rattle.guest_thread.proofs.Crewed.{all_later, ended_later, one_more, taken_more}
use Rattle.guest_thread.proofs.Prepared.{range_more}
use Rattle.slice_pool.specs.Ends.{AreTurnsOfEach}
use Rattle.slice_pool.specs.inner.Ends.{AreLeft, HaveEndedUpto, one}
use Rattle.slice_pool.specs.Hands.{downto}
use Rattle.slice_pool.specs.Over.{AreTurnsOf, last_step}
use Rattle.slice_pool.specs.inner.Over.{AreAllGone, IsGone, weighs}
use Rattle.slice_pool.specs.declared.turns.Gone.{Gone}
use Rattle.slice_pool.specs.declared.views.Key.{Key}

-- one number more
upto_more : (t : ℕ) → range_with_len 0 t ++ t ∷ [] ≡ range_with_len 0 (t + 1)
upto_more t =
    let here : t ≡ 0 + t = omega arith in
    let next : suc t ≡ t + 1 = omega arith in
    ap (λ k. range_with_len 0 t ++ k ∷ []) here ∙ range_more 0 t ∙ ap (range_with_len 0) next

-- one end more, with its slices
turns_more : (slice n : ℕ) (end : GuestEnd) (ends : List GuestEnd) (turns : List ℕ) → AreTurnsOfEach slice ends turns → AreTurnsOf slice n (last_step end.stop end.steps)
    → AreTurnsOfEach slice (ends ++ end ∷ []) (turns ++ n ∷ [])
turns_more slice n end [] [] are is = (is, tt)
turns_more slice n end [] (m ∷ turns) are is = absurd are
turns_more slice n end (e ∷ ends) [] are is = absurd are
turns_more slice n end (e ∷ ends) (m ∷ turns) are is = (are.0, turns_more slice n end ends turns are.1 is)

module _ {P : Type 0} (home : P → TableId) (numbers : P → ℕ → Bool) (seen : P → List Entry) (origin : Origin) (key : Key) where
  -- a guest that has ended joins those of the numbers below its own
  pub joins : (old new : P) (gone : Gone P) (ends more_ends : List GuestEnd) (turns more_turns : List ℕ)
      → HaveEndedUpto home numbers seen origin key gone.end.thread old ends turns → IsGone home numbers seen origin key gone
      → home new ≡ home old → numbers new ≡ joint (numbers old) (numbers gone.pass)
      → IsFront (seen old) (seen new) × IsFront (seen gone.pass) (seen new)
      → SaysAllOf (numbers old) (seen old) (seen new) → SaysAllOf (numbers gone.pass) (seen gone.pass) (seen new)
      → more_ends ≡ ends ++ gone.end ∷ [] → more_turns ≡ turns ++ gone.turns ∷ []
      → HaveEndedUpto home numbers seen origin key (gone.end.thread + 1) new more_ends more_turns
  joins old new gone ends more_ends turns more_turns ran is memory joined fronts mine yours ends_are turns_are =
      let t = gone.end.thread in
      let before : AreEndsOf a32 key.program origin key.budget (seen new) (range_with_len 0 t) ends =
      all_later a32 key.program origin key.budget (seen old) (seen new) (numbers old) (range_with_len 0 t) ends fronts.0 mine ran.taken ran.ends_are in
      let last : IsEndOf a32 key.program origin key.budget (seen new) t gone.end =
      ended_later a32 key.program origin key.budget (seen gone.pass) (seen new) t gone.end fronts.1 (yours t is.single.has) is.end in
      record {
        memory = memory ∙ ran.memory;
        taken = subst (AreTaken (numbers new)) (upto_more t)
            (taken_more (numbers old) (numbers gone.pass) (numbers new) t (range_with_len 0 t) joined ran.taken is.single.has);
        ends_are = subst (λ ts. AreEndsOf a32 key.program origin key.budget (seen new) ts more_ends) (upto_more t)
            (subst (AreEndsOf a32 key.program origin key.budget (seen new) (range_with_len 0 t ++ t ∷ [])) (sym ends_are)
            (one_more a32 key.program origin key.budget (seen new) t gone.end (range_with_len 0 t) ends before last));
        turns_are = subst (AreTurnsOfEach key.slice more_ends) (sym turns_are)
            (subst (λ l. AreTurnsOfEach key.slice l (turns ++ gone.turns ∷ [])) (sym ends_are)
            (turns_more key.slice gone.turns gone.end ends turns ran.turns_are is.turns));
      }

  -- the first of them
  pub first_joins : (gone : Gone P) (ends : List GuestEnd) (turns : List ℕ) → gone.end.thread ≡ 0 → IsGone home numbers seen origin key gone
      → ends ≡ gone.end ∷ [] → turns ≡ gone.turns ∷ [] → HaveEndedUpto home numbers seen origin key 1 gone.pass ends turns
  first_joins gone ends turns zeroth is ends_are turns_are =
      let first : IsEndOf a32 key.program origin key.budget (seen gone.pass) 0 gone.end =
      subst (λ t. IsEndOf a32 key.program origin key.budget (seen gone.pass) t gone.end) zeroth is.end in
      record {
        memory = is.memory;
        taken = All-cons (λ u. IsOneOf u (numbers gone.pass)) 0 [] (subst (λ t. IsOneOf t (numbers gone.pass)) zeroth is.single.has)
            (All-nil (λ u. IsOneOf u (numbers gone.pass)));
        ends_are = subst (AreEndsOf a32 key.program origin key.budget (seen gone.pass) (0 ∷ [])) (sym ends_are) (first, tt);
        turns_are = subst (AreTurnsOfEach key.slice ends) (sym turns_are)
            (subst (λ l. AreTurnsOfEach key.slice l (gone.turns ∷ [])) (sym ends_are) (is.turns, tt));
      }

-- ---- the guests that are left

-- the same numbers, from the greatest down and from 0 up
same_numbers : (weight : ℕ → ℕ) (n : ℕ) → sum_by weight (downto n) ≡ sum_by weight (range_with_len 0 n)
same_numbers weight zero = refl
same_numbers weight (suc n) =
    let r = same_numbers weight n in
    let c = sum_by-cons weight n (downto n) in
    let p = sum_by_push weight (range_with_len 0 n) n in
    let next : n + 1 ≡ suc n = omega arith in
    let m : sum_by weight (range_with_len 0 n ++ n ∷ []) ≡ sum_by weight (range_with_len 0 (suc n)) = ap (sum_by weight) (upto_more n ∙ ap (range_with_len 0) next) in
    omega (arith, r, c, p, m)

pub all_left : {P : Type 0} (count : ℕ) (done : List (Gone P)) → AreAllGone count done → AreLeft 0 (count - 0) done
all_left count done all weight =
    let whole : count ≡ count - 0 = omega arith in
    all weight ∙ same_numbers weight count ∙ ap (λ n. sum_by weight (range_with_len 0 n)) whole

least_and_above : (weight : ℕ → ℕ) (t count : ℕ) → t < count
    → sum_by weight (range_with_len t (count - t)) ≡ weight t + sum_by weight (range_with_len (t + 1) (count - (t + 1)))
least_and_above weight t count less =
    let some_left : count - t ≡ suc (count - (t + 1)) = omega (arith, less) in
    ap (λ n. sum_by weight (range_with_len t n)) some_left ∙ sum_by-cons weight t (range_with_len (t + 1) (count - (t + 1)))

-- the guest of the least number is there
pub one_there : {P : Type 0} (t count : ℕ) (done : List (Gone P)) → t < count → AreLeft t (count - t) done → 1 ≤ sum_by (weighs (one t)) done
one_there t count done less left =
    let l = left (one t) in
    let s = least_and_above (one t) t count less in
    let me : one t t ≡ 1 = omega arith in
    omega (arith, l, s, me)

-- and is taken out
pub one_taken : {P : Type 0} (t count : ℕ) (old new : List (Gone P)) → t < count → AreLeft t (count - t) old
    → ((weight : ℕ → ℕ) → sum_by (weighs weight) new + weight t ≡ sum_by (weighs weight) old) → AreLeft (t + 1) (count - (t + 1)) new
one_taken t count old new less left others weight =
    let l = left weight in
    let o = others weight in
    let s = least_and_above weight t count less in
    omega (arith, l, o, s)
