-- Threads that have ended on several host threads, taken together.
use Rattle.std.proofs.Common.{◌≡◌, ℕ, ◌||◌, Bool, true, false, List, [], ◌∷◌, ◌++◌, reverse, refl, sym, subst, ap, ◌∙◌, append_assoc}
use Rattle.std.proofs.lemmas.List.{reverse-append}
use Rattle.std.proofs.lemmas.List.Elements.{All-cons, All-head, All-nil, All-tail}
use Rattle.atomic_table.specs.Seated.{TableId}
use Rattle.llsc_base.specs.Images.{Program}
use Rattle.history.specs.Starts.{Started}
use Rattle.history.specs.declared.entry.Entry.{Entry}
use Rattle.shared_memory.specs.Origin.{Origin}
use Rattle.shared_memory.specs.Seen.{IsFront, IsOneOf, SaysAllOf, joint}
use Rattle.guest_thread.specs.Begun.{child_start}
use Rattle.guest_thread.specs.inner.Crews.{AreTaken}
use Rattle.guest_thread.specs.Start.{thread_start}
use Rattle.guest_thread.specs.declared.gathering.Ran.{Ran}
use Rattle.guest_thread.specs.declared.running.Finished.{Finished}
use Rattle.guest_family.specs.inner.EndedStarters.{AreChildren, HasEndedWithAll, numbers_of}
use Rattle.guest_family.specs.inner.UnderWay.{IsEndFrom}
use Rattle.guest_family.specs.declared.starters.StarterEnd.{StarterEnd}
use Rattle.guest_family.proofs.Later.{children_later, end_later, same_starts}
use Rattle.a32_step.specs.Machine.{a32}

or_left : (a b : Bool) → a ≡ true → (a || b) ≡ true
or_left true b is = refl
or_left false b is = cc

or_right : (a b : Bool) → b ≡ true → (a || b) ≡ true
or_right true b is = refl
or_right false b is = is

-- the numbers of one are those of the joint pass too, and so are those of the other
pub joint_left : (mine yours new : ℕ → Bool) (t : ℕ) → new ≡ joint mine yours → IsOneOf t mine → IsOneOf t new
joint_left mine yours new t is had = ap (λ (f : ℕ → Bool). f t) is ∙ or_left (mine t) (yours t) had

pub joint_right : (mine yours new : ℕ → Bool) (t : ℕ) → new ≡ joint mine yours → IsOneOf t yours → IsOneOf t new
joint_right mine yours new t is had = ap (λ (f : ℕ → Bool). f t) is ∙ or_right (mine t) (yours t) had

-- numbers that are all held stay so
pub taken_by : (old new : ℕ → Bool) (ts : List ℕ) → ((t : ℕ) → IsOneOf t old → IsOneOf t new) → AreTaken old ts → AreTaken new ts
taken_by old new [] keeps taken = All-nil (λ u. IsOneOf u new)
taken_by old new (t ∷ ts) keeps taken =
    All-cons (λ u. IsOneOf u new) t ts (keeps t (All-head (λ u. IsOneOf u old) t ts taken)) (taken_by old new ts keeps (All-tail (λ u. IsOneOf u old) t ts taken))

module _ {P : Type 0} (home : P → TableId) (numbers : P → ℕ → Bool) (seen : P → List Entry) (mem : TableId) (origin : Origin) (program : Program) (budget t : ℕ) where
  -- what is left of a thread, and one that it has started
  pub ended_more : (before : List Started) (one : Started) (rest : List ℕ) (ended : StarterEnd P) (done : Finished P) (new : Ran P)
      → HasEndedWithAll home numbers seen mem origin program budget t (before ++ one ∷ []) rest ended
      → IsEndFrom program origin budget one.child (child_start a32 origin.size one.child one.entry one.arg) (seen done.pass) done.end
      → IsOneOf one.child (numbers done.pass)
      → home new.pass ≡ mem → numbers new.pass ≡ joint (numbers ended.ran.pass) (numbers done.pass)
      → IsFront (seen ended.ran.pass) (seen new.pass) × IsFront (seen done.pass) (seen new.pass)
      → SaysAllOf (numbers ended.ran.pass) (seen ended.ran.pass) (seen new.pass) → SaysAllOf (numbers done.pass) (seen done.pass) (seen new.pass)
      → new.ends.items ≡ ended.ran.ends.items ++ done.end ∷ []
      → HasEndedWithAll home numbers seen mem origin program budget t before (one.child ∷ rest) (record { ran = new; end = ended.end })
  ended_more before one rest ended done new is child taken memory joined fronts mine yours ends =
      let keeps : (u : ℕ) → IsOneOf u (numbers ended.ran.pass) → IsOneOf u (numbers new.pass) =
      λ u had. joint_left (numbers ended.ran.pass) (numbers done.pass) (numbers new.pass) u joined had in
      let here : IsOneOf one.child (numbers new.pass) = joint_right (numbers ended.ran.pass) (numbers done.pass) (numbers new.pass) one.child joined taken in
      let others : AreChildren program origin budget (seen new.pass) is.more (reverse ended.ran.ends.items) =
      children_later program origin budget (seen ended.ran.pass) (seen new.pass) (numbers ended.ran.pass) is.more (reverse ended.ran.ends.items) fronts.0 mine is.among is.children in
      let all : reverse new.ends.items ≡ done.end ∷ reverse ended.ran.ends.items =
      ap reverse ends ∙ reverse-append ended.ran.ends.items (done.end ∷ []) in
      record {
        memory = memory;
        own = keeps t is.own;
        taken = All-cons (λ u. IsOneOf u (numbers new.pass)) one.child rest here (taken_by (numbers ended.ran.pass) (numbers new.pass) rest keeps is.taken);
        more = one ∷ is.more;
        starts = same_starts t (seen ended.ran.pass) (seen new.pass) (mine t is.own) ∙ is.starts ∙ append_assoc before (one ∷ []) is.more;
        head = end_later program origin budget t (thread_start a32 program origin.size origin.first t) (seen ended.ran.pass) (seen new.pass) ended.end fronts.0 (mine t is.own) is.head;
        children = subst (AreChildren program origin budget (seen new.pass) (one ∷ is.more)) (sym all)
            (end_later program origin budget one.child (child_start a32 origin.size one.child one.entry one.arg) (seen done.pass) (seen new.pass) done.end fronts.1 (yours one.child taken) child, others);
        among = All-cons (λ u. IsOneOf u (numbers new.pass)) one.child (numbers_of is.more) here (taken_by (numbers ended.ran.pass) (numbers new.pass) (numbers_of is.more) keeps is.among);
      }
