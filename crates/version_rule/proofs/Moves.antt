-- A seat's step: from what is kept before it to what is kept after it, and what is told.
use Rattle.std.proofs.Common.{◌≡◌, ◌≢◌, ℕ, true, false, List, [], ◌∷◌, ◌++◌, set, refl, sym, ap, ◌∙◌, subst, append_assoc}
use mathlib.Core.Option.{some}
use lib.ListN.{get_elem?}
use Rattle.history.specs.Entry.{thread_of}
use Rattle.history.specs.Standing.{Standing, joined, standing_after, standing_of}
use Rattle.history.specs.Started.{AreBorn, MayAct, MayStand}
use Rattle.history.specs.Steady.{AreSteady, IsSteady}
use Rattle.history.specs.Follow.{MayFollow, MayJoin}
use Rattle.history.specs.declared.entry.Entry.{Entry}
use Rattle.history.proofs.Appends.{standing_after-push}
use Rattle.history.proofs.Born.{is_start, may-act-later, may-stand}
use Rattle.history.proofs.Cuts.{each-more, each-still, each-two}
use Rattle.shared_memory.specs.declared.views.View.{View}
use Rattle.shared_memory.specs.Seen.{IsOneOf, IsSingle}
use Rattle.shared_memory.specs.Passes.{marked}
use Rattle.shared_memory.specs.inner.Passes.{moved}
use Rattle.shared_memory.proofs.Grown.{AreBy, are_by-none, grown}
use Rattle.shared_memory.proofs.Stepped.{are_by-one, are_by-two, goes-grown}
use Rattle.version_rule.specs.declared.hands.Hand.{Hand}
use Rattle.shared_memory.specs.declared.plans.Plan.{Plan}
use Rattle.version_rule.specs.Knowledge.{Knows}
use Rattle.version_rule.specs.Kept.{AreClasses, IsLaid, Kept, origin_of}
use Rattle.shared_memory.specs.Told.{Goes}
use Rattle.version_rule.specs.Told.{Decides}
use Rattle.version_rule.specs.StartWords.{AreStarts}
use Rattle.version_rule.proofs.Classes.{IsOrderly, classes-joined}
use Rattle.version_rule.proofs.Laid.{AreRelaid}
use Rattle.version_rule.proofs.Others.{knows-other}
use Rattle.version_rule.proofs.Started.{starts-plain, starts-still}
use Rattle.version_rule.proofs.Steady.{steady-joins}

module _ (plan : Plan) (words : List ℕ) (views : List (View Hand)) (k : Kept plan words views) (seat : ℕ) (v : View Hand) (at : get_elem? views seat ≡ some v)
    (single : IsSingle v.lead (marked v.numbers)) where
  -- what is kept after entries of the seat's thread
  moves : (words' : List ℕ) (es : List Entry) (h : Hand) → AreBy v.lead es → AreBorn plan.first plan.spare (k.history ++ es) → AreSteady plan.size (k.history ++ es) → MayFollow plan.size k.standing es
      → Knows plan.size (standing_after plan.size k.standing es) v.lead h
      → ((j : ℕ) (w : View Hand) → j ≢ seat → get_elem? views j ≡ some w → (u : ℕ) → IsOneOf u (marked w.numbers) → u ≢ v.lead → Knows plan.size k.standing u w.doing
      → Knows plan.size (standing_after plan.size k.standing es) u w.doing)
      → IsLaid plan.size words' (standing_after plan.size k.standing es)
      → AreStarts plan words' (k.history ++ es)
      → AreClasses plan.size (standing_after plan.size k.standing es)
      → Kept plan words' (set views seat (moved v k.history es h))
  moves words' es h by born steady may known frame laid starts classes = record {
    history = k.history ++ es;
    standing = standing_after plan.size k.standing es;
    born = born;
    steady = steady;
    tells = grown (Knows plan.size) plan.size plan.image.value.bytes views k.history es k.standing (standing_after plan.size k.standing es) seat v h k.tells at single by may refl known frame;
    laid = laid;
    starts = starts;
    classes = classes;
  }

  told : (es : List Entry) (h : Hand) (slots : List (ℕ × Unit {0})) → AreBy v.lead es → AreBorn plan.first plan.spare (k.history ++ es) → MayFollow plan.size k.standing es
      → Knows plan.size (standing_after plan.size k.standing es) v.lead h
      → ((j : ℕ) (w : View Hand) → j ≢ seat → get_elem? views j ≡ some w → (u : ℕ) → IsOneOf u (marked w.numbers) → u ≢ v.lead → Knows plan.size k.standing u w.doing
      → Knows plan.size (standing_after plan.size k.standing es) u w.doing)
      → Goes (origin_of plan) (v, slots) es h (moved v k.history es h, slots)
  told es h slots by born may known frame = goes-grown (Knows plan.size) plan.size plan.image.value.bytes views k.history k.standing seat v k.tells at single plan.first plan.spare true true es h slots by born may known frame

  -- what holds of the history before
  pub decides : (es : List Entry) (h : Hand) (slots : List (ℕ × Unit {0})) (about : List Entry → Type 0) → about k.history
      → Goes (origin_of plan) (v, slots) es h (moved v k.history es h, slots) → Decides (origin_of plan) (v, slots) es about h (moved v k.history es h, slots)
  decides es h slots about fact goes = record { goes = goes; past = k.history; since = (k.tells.each seat v at).part.front; is = refl; fact = fact }

  -- who may act by what was seen may act
  acts : MayAct plan.first v.lead v.seen → MayAct plan.first v.lead k.history
  acts act =
      let front = (k.tells.each seat v at).part.front in
      subst (MayAct plan.first v.lead) (sym front.1) (may-act-later plan.first v.lead v.seen front.0 act)

  -- no entry more
  still : AreBorn plan.first plan.spare (k.history ++ [])
  still = each-still (MayStand plan.first plan.spare) k.history k.born

  -- no entry
  pub moves-none : (h : Hand) → Knows plan.size k.standing v.lead h → Kept plan words (set views seat (moved v k.history [] h))
  moves-none h known = moves words [] h (are_by-none v.lead) still (each-still (IsSteady plan.size) k.history k.steady) tt known (λ j w ne there u has other knows. knows) k.laid
      (starts-still plan words k.history k.starts) k.classes

  pub told-none : (h : Hand) (slots : List (ℕ × Unit {0})) → Knows plan.size k.standing v.lead h
      → Goes (origin_of plan) (v, slots) [] h (moved v k.history [] h, slots)
  told-none h slots known = told [] h slots (are_by-none v.lead) still tt known (λ j w ne there u has other knows. knows)

  -- one entry
  module _ (e : Entry) (own : thread_of e ≡ v.lead) (stands : MayStand plan.first plan.spare k.history e) (may : MayJoin plan.size k.standing e) (orderly : IsOrderly plan.size k.standing e) where
    born-one : AreBorn plan.first plan.spare (k.history ++ e ∷ [])
    born-one = each-more (MayStand plan.first plan.spare) k.history e k.born stands

    steady-one : IsSteady plan.size k.history e
    steady-one = steady-joins plan.size plan.image.value.bytes k.history k.standing e k.tells.standing_is may orderly

    frame : (j : ℕ) (w : View Hand) → j ≢ seat → get_elem? views j ≡ some w → (u : ℕ) → IsOneOf u (marked w.numbers) → u ≢ v.lead → Knows plan.size k.standing u w.doing
        → Knows plan.size (joined plan.size k.standing e) u w.doing
    frame j w ne there u has other known = knows-other plan.size k.standing k.classes e u w.doing (λ same. other (same ∙ own)) may orderly known

    pub moves-by : (words' : List ℕ) (h : Hand) → Knows plan.size (joined plan.size k.standing e) v.lead h → IsLaid plan.size words' (joined plan.size k.standing e)
        → AreStarts plan words' (k.history ++ e ∷ []) → Kept plan words' (set views seat (moved v k.history (e ∷ []) h))
    moves-by words' h known laid starts = moves words' (e ∷ []) h (are_by-one e v.lead own) born-one (each-more (IsSteady plan.size) k.history e k.steady steady-one) (may, tt) known frame laid starts
        (classes-joined plan.size k.standing e may orderly k.classes)

    pub told-by : (h : Hand) (slots : List (ℕ × Unit {0})) → Knows plan.size (joined plan.size k.standing e) v.lead h
        → Goes (origin_of plan) (v, slots) (e ∷ []) h (moved v k.history (e ∷ []) h, slots)
    told-by h slots known = told (e ∷ []) h slots (are_by-one e v.lead own) born-one (may, tt) known frame

    -- and another
    module _ (f : Entry) (own_f : thread_of f ≡ v.lead) (stands_f : MayStand plan.first plan.spare (k.history ++ e ∷ []) f) (may_f : MayJoin plan.size (joined plan.size k.standing e) f) (orderly_f : IsOrderly plan.size (joined plan.size k.standing e) f) where
      born-two : AreBorn plan.first plan.spare (k.history ++ e ∷ f ∷ [])
      born-two = each-two (MayStand plan.first plan.spare) k.history e f k.born stands stands_f

      steady-two : AreSteady plan.size (k.history ++ e ∷ f ∷ [])
      steady-two =
          let bytes = plan.image.value.bytes in
          let standing = ap (λ (x : Standing). joined plan.size x e) k.tells.standing_is ∙ sym (standing_after-push plan.size (standing_of bytes) k.history e) in
          each-two (IsSteady plan.size) k.history e f k.steady steady-one
          (steady-joins plan.size bytes (k.history ++ e ∷ []) (joined plan.size k.standing e) f standing may_f orderly_f)

      frame-two : (j : ℕ) (w : View Hand) → j ≢ seat → get_elem? views j ≡ some w → (u : ℕ) → IsOneOf u (marked w.numbers) → u ≢ v.lead → Knows plan.size k.standing u w.doing
          → Knows plan.size (joined plan.size (joined plan.size k.standing e) f) u w.doing
      frame-two j w ne there u has other known = knows-other plan.size (joined plan.size k.standing e) (classes-joined plan.size k.standing e may orderly k.classes) f u w.doing (λ same. other (same ∙ own_f)) may_f orderly_f
          (frame j w ne there u has other known)

      moves-by_two : (words' : List ℕ) (h : Hand) → Knows plan.size (joined plan.size (joined plan.size k.standing e) f) v.lead h → IsLaid plan.size words' (joined plan.size (joined plan.size k.standing e) f)
          → AreStarts plan words' (k.history ++ e ∷ f ∷ []) → Kept plan words' (set views seat (moved v k.history (e ∷ f ∷ []) h))
      moves-by_two words' h known laid starts = moves words' (e ∷ f ∷ []) h (are_by-two e f v.lead own own_f) born-two steady-two (may, (may_f, tt)) known frame-two laid starts
          (classes-joined plan.size (joined plan.size k.standing e) f may_f orderly_f (classes-joined plan.size k.standing e may orderly k.classes))

      told-by_two : (h : Hand) (slots : List (ℕ × Unit {0})) → Knows plan.size (joined plan.size (joined plan.size k.standing e) f) v.lead h
          → Goes (origin_of plan) (v, slots) (e ∷ f ∷ []) h (moved v k.history (e ∷ f ∷ []) h, slots)
      told-by_two h slots known = told (e ∷ f ∷ []) h slots (are_by-two e f v.lead own own_f) born-two (may, (may_f, tt)) known frame-two

  -- the same of entries that start no thread
  module _ (e : Entry) (own : thread_of e ≡ v.lead) (plain : is_start e ≡ false) (act : MayAct plan.first v.lead v.seen) (may : MayJoin plan.size k.standing e) (orderly : IsOrderly plan.size k.standing e) where
    stands-one : MayStand plan.first plan.spare k.history e
    stands-one = may-stand plan.first plan.spare k.history e plain (subst (λ (t : ℕ). MayAct plan.first t k.history) (sym own) (acts act))

    pub moves-one : (words' : List ℕ) (h : Hand) → Knows plan.size (joined plan.size k.standing e) v.lead h → AreRelaid plan.size words words' (joined plan.size k.standing e)
        → Kept plan words' (set views seat (moved v k.history (e ∷ []) h))
    moves-one words' h known relaid = moves-by e own stands-one may orderly words' h known relaid.laid (starts-plain plan words words' k.history e plain relaid.as_long relaid.behind k.starts)

    pub told-one : (h : Hand) (slots : List (ℕ × Unit {0})) → Knows plan.size (joined plan.size k.standing e) v.lead h
        → Goes (origin_of plan) (v, slots) (e ∷ []) h (moved v k.history (e ∷ []) h, slots)
    told-one h slots known = told-by e own stands-one may orderly h slots known

    module _ (f : Entry) (own_f : thread_of f ≡ v.lead) (plain_f : is_start f ≡ false) (may_f : MayJoin plan.size (joined plan.size k.standing e) f) (orderly_f : IsOrderly plan.size (joined plan.size k.standing e) f) where
      stands-two : MayStand plan.first plan.spare (k.history ++ e ∷ []) f
      stands-two = may-stand plan.first plan.spare (k.history ++ e ∷ []) f plain_f
          (may-act-later plan.first (thread_of f) k.history (e ∷ []) (subst (λ (t : ℕ). MayAct plan.first t k.history) (sym own_f) (acts act)))

      pub moves-two : (words' : List ℕ) (h : Hand) → Knows plan.size (joined plan.size (joined plan.size k.standing e) f) v.lead h → AreRelaid plan.size words words' (joined plan.size (joined plan.size k.standing e) f)
          → Kept plan words' (set views seat (moved v k.history (e ∷ f ∷ []) h))
      moves-two words' h known relaid = moves-by_two e own stands-one may orderly f own_f stands-two may_f orderly_f words' h known relaid.laid
          (subst (AreStarts plan words') (append_assoc k.history (e ∷ []) (f ∷ []))
          (starts-plain plan words' words' (k.history ++ e ∷ []) f plain_f refl (λ i from. refl)
          (starts-plain plan words words' k.history e plain relaid.as_long relaid.behind k.starts)))

      pub told-two : (h : Hand) (slots : List (ℕ × Unit {0})) → Knows plan.size (joined plan.size (joined plan.size k.standing e) f) v.lead h
          → Goes (origin_of plan) (v, slots) (e ∷ f ∷ []) h (moved v k.history (e ∷ f ∷ []) h, slots)
      told-two h slots known = told-by_two e own stands-one may orderly f own_f stands-two may_f orderly_f h slots known
