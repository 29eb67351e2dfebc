-- A seat's step: what is told of it.
use Rattle.std.proofs.Common.{◌≡◌, ◌≢◌, ℕ, Bool, List, [], ◌∷◌, ◌++◌, set, refl, sym, ◌∙◌}
use mathlib.Core.Option.{some}
use lib.ListN.{get_elem?}
use Rattle.std.proofs.lemmas.Bool.{eq-eqb, ne_eqb}
use Rattle.llsc_base.specs.Sizes.{Numbers}
use Rattle.history.specs.Entry.{thread_of}
use Rattle.history.specs.Started.{AreBorn}
use Rattle.history.specs.Standing.{Standing, standing_after}
use Rattle.history.specs.Follow.{MayFollow}
use Rattle.history.specs.declared.entry.Entry.{Entry}
use Rattle.shared_memory.specs.declared.views.View.{View}
use Rattle.shared_memory.specs.Passes.{marked}
use Rattle.shared_memory.specs.inner.Passes.{moved}
use Rattle.shared_memory.specs.Rule.{Tells}
use Rattle.shared_memory.specs.Seen.{IsOneOf, IsSingle}
use Rattle.shared_memory.specs.Told.{Goes}
use Rattle.shared_memory.proofs.Grown.{AreBy, grown, legal-tells, sees-grown}

pub are_by-one : (e : Entry) (lead : ℕ) → thread_of e ≡ lead → AreBy lead (e ∷ [])
are_by-one e lead own = record {
  own = rw (eq-eqb (thread_of e) lead own) refl;
  none = λ u ne. rw (ne_eqb (thread_of e) u (λ same. ne (sym same ∙ own))) refl;
}

pub are_by-two : (e f : Entry) (lead : ℕ) → thread_of e ≡ lead → thread_of f ≡ lead → AreBy lead (e ∷ f ∷ [])
are_by-two e f lead own_e own_f = record {
  own = rw (eq-eqb (thread_of e) lead own_e, eq-eqb (thread_of f) lead own_f) refl;
  none = λ u ne. rw (ne_eqb (thread_of e) u (λ same. ne (sym same ∙ own_e)), ne_eqb (thread_of f) u (λ same. ne (sym same ∙ own_f))) refl;
}

module _ {D : Type 0} (knows : Standing → ℕ → D → Type 0) (size : Numbers) (bytes : List ℕ) (views : List (View D)) (history : List Entry) (s : Standing) (seat : ℕ) (v : View D)
    (tells : Tells knows size bytes views history s) (at : get_elem? views seat ≡ some v) (single : IsSingle v.lead (marked v.numbers)) where
  -- where the history grows by entries of the seat's thread, the seat has seen all of it
  pub goes-grown : (first spare : ℕ) (spends steady : Bool) (es : List Entry) (doing : D) (slots : List (ℕ × Unit {0})) → AreBy v.lead es
      → AreBorn first spare (history ++ es) → MayFollow size s es
      → knows (standing_after size s es) v.lead doing
      → ((j : ℕ) (w : View D) → j ≢ seat → get_elem? views j ≡ some w → (u : ℕ) → IsOneOf u (marked w.numbers) → u ≢ v.lead → knows s u w.doing → knows (standing_after size s es) u w.doing)
      → Goes (record { size = size; first = first; spare = spare; bytes = bytes; spends = spends; steady = steady }) (v, slots) es doing (moved v history es doing, slots)
  goes-grown first spare spends steady es doing slots by born may known frame =
      let s' = standing_after size s es in
      let new = grown knows size bytes views history es s s' seat v doing tells at single by may refl known frame in
      record {
        sees = sees-grown (record { size = size; first = first; spare = spare; bytes = bytes; spends = spends; steady = steady }) v.lead v.numbers v.seen history es (tells.each seat v at).part single.has by
            (legal-tells knows size bytes (set views seat (moved v history es doing)) (history ++ es) s' first spare spends steady new born);
        numbers = refl;
        lead = refl;
        left = refl;
        right = refl;
        doing_is = refl;
        slots = refl;
      }
