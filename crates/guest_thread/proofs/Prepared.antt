-- The jobs of all threads are made one after another.
use Rattle.std.proofs.Common.{◌≡◌, ◌≢◌, ◌⊎◌, inl, inr, ℕ, zero, suc, ◌+◌, ◌<◌, ◌≤◌, ◌==◌, ◌&&◌, not, arith, Bool, true, false, List, [], ◌∷◌, ◌++◌, refl, sym, subst, ap, ◌∙◌}
use Rattle.std.specs.List.{range_with_len}
use Rattle.std.proofs.lemmas.Bool.{eq-eqb, ne_eqb}
use Rattle.std.proofs.lemmas.List.{map-append}
use Rattle.std.proofs.lemmas.List.Elements.{All-append, All-cons, All-nil}
use Rattle.llsc_base.specs.Images.{Program}
use Rattle.history.specs.declared.entry.Entry.{Entry}
use Rattle.atomic_table.specs.Seated.{TableId}
use Rattle.shared_memory.specs.Origin.{Origin}
use Rattle.shared_memory.specs.Seen.{IsOneOf, all_but}
use Rattle.guest_core.specs.Machine.{MachineOf, InstructionSet}
use Rattle.guest_thread.specs.Crews.{AreFresh, HaveSeen, IsFresh, threads_of}
use Rattle.guest_thread.specs.declared.crews.Job.{Job}

-- what is left to a pass of all threads once those of the numbers from 1 up to one were split off: 0, and that number and those
-- above it
pub record AreLeft (count t : ℕ) (numbers : ℕ → Bool) : Type 0 where
  pub zeroth : IsOneOf 0 numbers
  pub later : (u : ℕ) → t ≤ u → u < count → IsOneOf u numbers
  pub only : (u : ℕ) → IsOneOf u numbers → (u < count) × ((u ≡ 0) ⊎ (t ≤ u))

and_both : (a b : Bool) → a ≡ true → b ≡ false → (a && not b) ≡ true
and_both true false is isnt = refl
and_both true true is isnt = cc
and_both false b is isnt = cc

record IsBut (a b : Bool) : Type 0 where
  first : a ≡ true
  second : b ≡ false

and_parts : (a b : Bool) → (a && not b) ≡ true → IsBut a b
and_parts true false is = record { first = refl; second = refl }
and_parts true true is = cc
and_parts false b is = cc

kept : (t u : ℕ) (old new : ℕ → Bool) → new ≡ all_but t old → u ≢ t → IsOneOf u old → IsOneOf u new
kept t u old new is other had = ap (λ f. f u) is ∙ and_both (old u) (u == t) had (ne_eqb u t other)

pub one_less : (count t : ℕ) (old new : ℕ → Bool) → 1 ≤ t → new ≡ all_but t old → AreLeft count t old → AreLeft count (t + 1) new
one_less count t old new above is left = record {
  zeroth = kept t 0 old new is (λ same. absurd (omega (arith, above, same))) left.zeroth;
  later = λ u after below. kept t u old new is (λ same. absurd (omega (arith, after, same))) (left.later u (omega (arith, after)) below);
  only = λ u has.
      let parts = and_parts (old u) (u == t) (sym (ap (λ f. f u) is) ∙ has) in
      let was = left.only u parts.first in
      (was.0, further u was.1 parts.second);
}
  where
    further : (u : ℕ) → (u ≡ 0) ⊎ (t ≤ u) → (u == t) ≡ false → (u ≡ 0) ⊎ (t + 1 ≤ u)
    further u (inl is0) other = inl is0
    further u (inr after) other =
        let differs : u ≢ t = λ same. true_false (sym (eq-eqb u t same) ∙ other) in
        inr (omega (arith, after, differs))
      where
        true_false : true ≡ false → ⊥
        true_false same = cc

module _ {I S C R P : Type 0} (set : InstructionSet I S) (machine : C → MachineOf I S) (home : P → TableId) (numbers : P → ℕ → Bool) (seen : P → List Entry)
    (mem : TableId) (origin : Origin) (program : Program) where
  fresh_more : (jobs : List (Job P C R)) (job : Job P C R) → AreFresh set machine home numbers seen mem origin program jobs → IsFresh set machine home numbers seen mem origin program job
      → AreFresh set machine home numbers seen mem origin program (jobs ++ job ∷ [])
  fresh_more [] job all is = (is, tt)
  fresh_more (one ∷ jobs) job all is = (all.0, fresh_more jobs job all.1 is)

  pub fresh_pushed : (jobs new : List (Job P C R)) (job : Job P C R) → new ≡ jobs ++ job ∷ [] → AreFresh set machine home numbers seen mem origin program jobs
      → IsFresh set machine home numbers seen mem origin program job → AreFresh set machine home numbers seen mem origin program new
  fresh_pushed jobs new job pushed all is = subst (AreFresh set machine home numbers seen mem origin program) (sym pushed) (fresh_more jobs job all is)

pub seen_pushed : {P C R : Type 0} (seen : P → List Entry) (history : List Entry) (jobs new : List (Job P C R)) (job : Job P C R) → new ≡ jobs ++ job ∷ []
    → HaveSeen seen history jobs → seen job.pass ≡ history → HaveSeen seen history new
seen_pushed {P = P} {C = C} {R = R} seen history jobs new job pushed all is =
    let HasSeen : Job P C R → Type 0 = λ one. seen one.pass ≡ history in
    subst (HaveSeen seen history) (sym pushed) (All-append HasSeen jobs (job ∷ []) all (All-cons HasSeen job [] is (All-nil HasSeen)))

pub range_more : (n count : ℕ) → range_with_len n count ++ (n + count) ∷ [] ≡ range_with_len n (suc count)
range_more n zero = ap (λ k. k ∷ []) (omega arith)
range_more n (suc count) =
    let number : n + suc count ≡ n + 1 + count = omega arith in
    ap (λ k. n ∷ (range_with_len (n + 1) count ++ k ∷ [])) number ∙ ap (λ l. n ∷ l) (range_more (n + 1) count)

pub threads_more : {P C R : Type 0} (jobs new : List (Job P C R)) (job : Job P C R) (len more t : ℕ) → new ≡ jobs ++ job ∷ [] → job.thread ≡ t → len + 1 ≡ t → more ≡ len + 1
    → threads_of jobs ≡ range_with_len 1 len → threads_of new ≡ range_with_len 1 more
threads_more {P = P} {C = C} {R = R} jobs new job len more t is thread next longer threads =
    let number : job.thread ≡ 1 + len = omega (arith, thread, next) in
    let count : suc len ≡ more = omega (arith, longer) in
    ap threads_of is ∙ map-append (λ (j : Job P C R). j.thread) jobs (job ∷ [])
    ∙ ap (λ l. l ++ job.thread ∷ []) threads ∙ ap (λ k. range_with_len 1 len ++ k ∷ []) number ∙ range_more 1 len ∙ ap (range_with_len 1) count

pub all_threads : {P C R : Type 0} (first : Job P C R) (jobs : List (Job P C R)) (len count : ℕ) → first.thread ≡ 0 → threads_of jobs ≡ range_with_len 1 len → len + 1 ≡ count
    → threads_of (first ∷ jobs) ≡ range_with_len 0 count
all_threads first jobs len count zeroth threads many =
    let all : suc len ≡ count = omega (arith, many) in
    ap (λ t. t ∷ threads_of jobs) zeroth ∙ ap (λ l. 0 ∷ l) threads ∙ ap (range_with_len 0) all
