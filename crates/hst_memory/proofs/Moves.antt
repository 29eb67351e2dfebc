-- A seat's step: from what is kept before it to what is kept after it, and what is told.
use Rattle.std.proofs.Common.{◌≡◌, ◌≢◌, ℕ, ◌≤◌, false, List, [], ◌∷◌, ◌++◌, set, slice_index, refl, ap, sym, ◌∙◌, inl, inr}
use mathlib.Core.Option.{some}
use lib.ListN.{get_elem?}
use Rattle.history.specs.Entry.{thread_of}
use Rattle.history.specs.Started.{AreBorn, MayAct, MayStand}
use Rattle.history.specs.Standing.{joined, standing_after}
use Rattle.history.specs.Follow.{MayFollow, MayJoin}
use Rattle.history.specs.declared.entry.Entry.{Entry}
use Rattle.history.proofs.Cuts.{each-more, each-still}
use Rattle.shared_memory.specs.declared.views.View.{View}
use Rattle.shared_memory.specs.Seen.{IsOneOf, IsSingle}
use Rattle.shared_memory.specs.Passes.{marked}
use Rattle.shared_memory.specs.inner.Passes.{moved}
use Rattle.shared_memory.proofs.Grown.{AreBy, are_by-none, grown}
use Rattle.shared_memory.proofs.Stepped.{are_by-one, goes-grown}
use Rattle.hst_memory.specs.declared.hands.Hand.{Hand}
use Rattle.shared_memory.specs.declared.plans.Plan.{Plan}
use Rattle.hst_memory.specs.inner.Hands.{weight_of}
use Rattle.hst_memory.specs.inner.Knowledge.{Knows}
use Rattle.hst_memory.specs.Kept.{origin_of}
use Rattle.hst_memory.specs.inner.Kept.{IsLaid, IsSection, Kept}
use Rattle.shared_memory.specs.Told.{Goes}
use Rattle.hst_memory.proofs.Others.{IsSafe, knows-other}
use Rattle.hst_memory.proofs.Sections.{none-alone, weight}

module _ (plan : Plan) (words : List ℕ) (views : List (View Hand)) (k : Kept plan words views) (seat : ℕ) (v : View Hand) (at : get_elem? views seat ≡ some v)
    (single : IsSingle v.lead (marked v.numbers)) where
  -- what is kept after entries of the seat's thread
  moves : (words' : List ℕ) (es : List Entry) (h : Hand) → AreBy v.lead es → AreBorn plan.size.threads 0 (k.history ++ es) → MayFollow plan.size k.standing es
      → Knows plan.size (standing_after plan.size k.standing es) v.lead h
      → ((j : ℕ) (w : View Hand) → j ≢ seat → get_elem? views j ≡ some w → (u : ℕ) → IsOneOf u (marked w.numbers) → u ≢ v.lead → Knows plan.size k.standing u w.doing
      → Knows plan.size (standing_after plan.size k.standing es) u w.doing)
      → IsLaid plan.size words' (standing_after plan.size k.standing es)
      → IsSection plan.size.threads (slice_index words' 0) (set views seat (moved v k.history es h))
      → Kept plan words' (set views seat (moved v k.history es h))
  moves words' es h by born may known frame laid section = record {
    history = k.history ++ es;
    standing = standing_after plan.size k.standing es;
    born = born;
    tells = grown (Knows plan.size) plan.size plan.image.value.bytes views k.history es k.standing (standing_after plan.size k.standing es) seat v h k.tells at single by may refl known frame;
    laid = laid;
    section = section;
  }

  told : (es : List Entry) (h : Hand) (slots : List (ℕ × Unit {0})) → AreBy v.lead es → AreBorn plan.size.threads 0 (k.history ++ es) → MayFollow plan.size k.standing es
      → Knows plan.size (standing_after plan.size k.standing es) v.lead h
      → ((j : ℕ) (w : View Hand) → j ≢ seat → get_elem? views j ≡ some w → (u : ℕ) → IsOneOf u (marked w.numbers) → u ≢ v.lead → Knows plan.size k.standing u w.doing
      → Knows plan.size (standing_after plan.size k.standing es) u w.doing)
      → Goes (origin_of plan) (v, slots) es h (moved v k.history es h, slots)
  told es h slots by born may known frame = goes-grown (Knows plan.size) plan.size plan.image.value.bytes views k.history k.standing seat v k.tells at single plan.size.threads 0 false false es h slots by born may known frame

  -- the seat's thread is one of the first
  pub acts : MayAct plan.size.threads v.lead k.history
  acts = inl ((k.tells.each seat v at).below v.lead single.has)

  -- no entry
  pub moves-none : (words' : List ℕ) (h : Hand) → Knows plan.size k.standing v.lead h → IsLaid plan.size words' k.standing
      → IsSection plan.size.threads (slice_index words' 0) (set views seat (moved v k.history [] h))
      → Kept plan words' (set views seat (moved v k.history [] h))
  moves-none words' h known laid section = moves words' [] h (are_by-none v.lead) (each-still (MayStand plan.size.threads 0) k.history k.born) tt known (λ j w ne there u has other knows. knows) laid section

  pub told-none : (h : Hand) (slots : List (ℕ × Unit {0})) → Knows plan.size k.standing v.lead h
      → Goes (origin_of plan) (v, slots) [] h (moved v k.history [] h, slots)
  told-none h slots known = told [] h slots (are_by-none v.lead) (each-still (MayStand plan.size.threads 0) k.history k.born) tt known (λ j w ne there u has other knows. knows)

  -- one entry, which puts no other's mark at stake
  module _ (e : Entry) (own : thread_of e ≡ v.lead) (stands : MayStand plan.size.threads 0 k.history e) (may : MayJoin plan.size k.standing e)
      (safe : (j : ℕ) (w : View Hand) → j ≢ seat → get_elem? views j ≡ some w → IsSafe w.doing.doing e) where
    born : AreBorn plan.size.threads 0 (k.history ++ e ∷ [])
    born = each-more (MayStand plan.size.threads 0) k.history e k.born stands

    frame : (j : ℕ) (w : View Hand) → j ≢ seat → get_elem? views j ≡ some w → (u : ℕ) → IsOneOf u (marked w.numbers) → u ≢ v.lead → Knows plan.size k.standing u w.doing
        → Knows plan.size (joined plan.size k.standing e) u w.doing
    frame j w ne there u has other known = knows-other plan.size k.standing e u w.doing (λ same. other (same ∙ own)) may (safe j w ne there) known

    pub moves-one : (words' : List ℕ) (h : Hand) → Knows plan.size (joined plan.size k.standing e) v.lead h → IsLaid plan.size words' (joined plan.size k.standing e)
        → IsSection plan.size.threads (slice_index words' 0) (set views seat (moved v k.history (e ∷ []) h))
        → Kept plan words' (set views seat (moved v k.history (e ∷ []) h))
    moves-one words' h known laid section = moves words' (e ∷ []) h (are_by-one e v.lead own) born (may, tt) known frame laid section

    pub told-one : (h : Hand) (slots : List (ℕ × Unit {0})) → Knows plan.size (joined plan.size k.standing e) v.lead h
        → Goes (origin_of plan) (v, slots) (e ∷ []) h (moved v k.history (e ∷ []) h, slots)
    told-one h slots known = told (e ∷ []) h slots (are_by-one e v.lead own) born (may, tt) known frame

  -- who writes inside puts nobody's mark at stake
  pub inside-safe : plan.size.threads ≤ 16 → 1 ≤ weight v → (e : Entry) → (j : ℕ) (w : View Hand) → j ≢ seat → get_elem? views j ≡ some w → IsSafe w.doing.doing e
  inside-safe small inside e j w ne there = inr (λ place is. none-alone plan.size.threads (slice_index words 0) views seat j v w small k.section (λ same. ne (sym same)) at there inside (ap weight_of is))
