-- What holds of a pass when its memory is made, and after it was split or joined.
use Rattle.std.proofs.Common.{◌≡◌, ◌≢◌, ◌==◌, ◌&&◌, ◌||◌, not, ℕ, Bool, true, false, if◌then◌else◌, Option, None, List, [], set, refl, ap, sym, ◌∙◌, subst, inl, inr, ◌≤◌, nat_lt, append-nil, arith}
use Rattle.std.proofs.lemmas.Bool.{cases_Bool, eqb-false, lt-ltb}
use Rattle.history.specs.declared.entry.Entry.{Entry}
use Rattle.shared_memory.specs.Origin.{IsLegalFrom, Origin}
use Rattle.shared_memory.specs.declared.views.View.{View}
use Rattle.shared_memory.specs.Passes.{first_view, marked, one_mark}
use Rattle.shared_memory.specs.inner.Passes.{alone_mark, joined_view, merged, without_mark}
use Rattle.shared_memory.specs.Seen.{IsOneOf, IsSingle, Sees, joint}
use Rattle.shared_memory.proofs.FirstWords.{first-marks}
use Rattle.shared_memory.proofs.Joined.{merged-left, merged-right}
use Rattle.shared_memory.proofs.Marks.{marked-merged, marked-taken, one-here, taken-other}
use Rattle.hst_memory.specs.declared.hands.Doing.TheVariants.{Rest}
use Rattle.hst_memory.specs.declared.hands.Reserve.TheVariants.{Nothing, Several}
use Rattle.hst_memory.specs.declared.hands.Hand.{Hand}
use Rattle.hst_memory.specs.inner.Hands.{hand, reserve_joined}
use Rattle.hst_memory.specs.Passes.{IsBetween, row_of_reserve}
use Rattle.shared_memory.specs.Told.{Goes, Settles}
use Rattle.hst_memory.specs.Told.{Mine}

nothing-several : Nothing ≡ Several → ⊥
nothing-several h = let f : ⊥ = cc in f

-- the pass of a memory that is made
pub between-first : (threads : ℕ) (has : List Bool) → 1 ≤ threads → ((t : ℕ) → marked has t ≡ nat_lt t threads) → IsBetween (first_view threads (hand Rest Nothing), []) has 0 None
between-first threads has some same = record {
  numbers = λ t. first-marks threads t ∙ sym (same t);
  lead = refl;
  holds_it = same 0 ∙ lt-ltb 0 threads (omega arith);
  left = refl;
  right = refl;
  rest = refl;
  tied = refl;
  several = λ h. absurd (nothing-several h);
  slots = refl;
}

-- what is left of a pass that has given a number away
pub between-left : (me : Mine) (has : List Bool) (number : ℕ) (reserved : Option ℕ) (t lead : ℕ) → IsBetween me has number reserved → IsOneOf lead (marked has) → lead ≢ t
    → IsBetween (without_mark t lead (hand Rest Nothing) me.0, me.1) (set has t false) lead None
between-left me has number reserved t lead b one other = record {
  numbers = λ u. marked-taken me.0.numbers t u ∙ ap (λ (x : Bool). x && not (u == t)) (b.numbers u) ∙ sym (marked-taken has t u);
  lead = refl;
  holds_it = taken-other has t lead other one;
  left = b.left;
  right = b.right;
  rest = refl;
  tied = refl;
  several = λ h. absurd (nothing-several h);
  slots = b.slots;
}

-- the pass that has it
pub between-given : (me : Mine) (only : List Bool) (number : ℕ) (has : List Bool) (reserved : Option ℕ) (t : ℕ) → IsBetween me has number reserved
    → ((u : ℕ) → marked only u ≡ marked (one_mark t) u) → IsBetween (alone_mark t (hand Rest Nothing) me.0, []) only t None
between-given me only number has reserved t b same = record {
  numbers = λ u. sym (same u);
  lead = refl;
  holds_it = same t ∙ one-here t;
  left = b.left;
  right = b.right;
  rest = refl;
  tied = refl;
  several = λ h. absurd (nothing-several h);
  slots = refl;
}

several-joined : (v w : View Hand) → IsOneOf v.lead (marked v.numbers) → IsOneOf w.lead (marked w.numbers) → reserve_joined v w ≡ Several
    → (t : ℕ) → IsSingle t (marked (merged v.numbers w.numbers)) → ⊥
several-joined v w one two is t single = elim (cases_Bool (v.lead == w.lead)) [
  | inl same ↦ nothing-several (sym (ap (λ (b : Bool). if b then Nothing else Several) same) ∙ is)
  | inr differ ↦ eqb-false v.lead w.lead differ (single.only v.lead (merged-left v.numbers w.numbers v.lead one) ∙ sym (single.only w.lead (merged-right v.numbers w.numbers w.lead two)))
]

tied-joined : (b : Bool) → row_of_reserve (if b then Nothing else Several) ≡ None
tied-joined true = refl
tied-joined false = refl

pub lead-held : (me : Mine) (has : List Bool) (number : ℕ) (reserved : Option ℕ) → IsBetween me has number reserved → IsOneOf me.0.lead (marked me.0.numbers)
lead-held me has number reserved b = b.numbers me.0.lead ∙ ap (marked has) b.lead ∙ b.holds_it

-- what a seat has added to what a pass has seen, of its thread by its number
pub sees-goes : (origin : Origin) (me new : Mine) (has : List Bool) (number : ℕ) (reserved : Option ℕ) (t : ℕ) (es : ℕ → List Entry) (h : Hand) → IsBetween me has number reserved
    → IsSingle t (marked me.0.numbers) → Goes origin me (es me.0.lead) h new → Sees origin t me.0.seen (es t) new.0.seen
sees-goes origin me new has number reserved t es h b single goes =
    subst (λ (u : ℕ). Sees origin u me.0.seen (es u) new.0.seen) (single.only me.0.lead (lead-held me has number reserved b)) goes.sees

-- a pass that has seen what it had seen has done nothing
pub sees-none : (origin : Origin) (t : ℕ) (old new : List Entry) → new ≡ old → IsLegalFrom origin new → Sees origin t old [] new
sees-none origin t old new same legal = record { added = []; longer = same ∙ sym (append-nil old); mine = refl; legal = legal }

-- a pass that has taken in another
pub between-joined : (me other new : Mine) (has has_other has_both : List Bool) (number number_other : ℕ) (reserved reserved_other : Option ℕ)
    → IsBetween me has number reserved → IsBetween other has_other number_other reserved_other
    → Settles (joined_view (hand Rest (reserve_joined me.0 other.0)) me.0 other.0, me.1) new
    → ((u : ℕ) → marked has_both u ≡ joint (marked has) (marked has_other) u) → IsBetween new has_both number None
between-joined me other new has has_other has_both number number_other reserved reserved_other b o both same =
    let view = both.settled.view in
    let numbers : new.0.numbers ≡ merged me.0.numbers other.0.numbers = ap (λ (v : View Hand). v.numbers) view in
    let reserve : new.0.doing.reserve ≡ reserve_joined me.0 other.0 = ap (λ (v : View Hand). v.doing.reserve) view in
    record {
      numbers = λ u. ap (λ (ns : List Bool). marked ns u) numbers ∙ marked-merged me.0.numbers other.0.numbers u
          ∙ ap (λ (x : Bool). x || marked other.0.numbers u) (b.numbers u) ∙ ap (λ (x : Bool). marked has u || x) (o.numbers u) ∙ sym (same u);
      lead = ap (λ (v : View Hand). v.lead) view ∙ b.lead;
      holds_it = same number ∙ ap (λ (x : Bool). x || marked has_other number) b.holds_it;
      left = ap (λ (v : View Hand). v.left) view;
      right = ap (λ (v : View Hand). v.right) view;
      rest = ap (λ (v : View Hand). v.doing.doing) view;
      tied = ap row_of_reserve reserve ∙ tied-joined (me.0.lead == other.0.lead);
      several = λ h t single. several-joined me.0 other.0 (lead-held me has number reserved b) (lead-held other has_other number_other reserved_other o) (sym reserve ∙ h) t
          (subst (λ (ns : List Bool). IsSingle t (marked ns)) numbers single);
      slots = both.slots ∙ b.slots;
    }
