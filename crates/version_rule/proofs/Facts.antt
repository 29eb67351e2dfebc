-- What a step finds: of the words of the table, of what the seat's thread knows, and of the history.
use Rattle.std.proofs.Common.{◌≡◌, ℕ, ◌+◌, ◌*◌, ◌/◌, ◌%◌, ◌^◌, ◌<◌, ◌≤◌, true, Some, List, set, slice_index, ap, sym, ◌∙◌, subst, arith}
use mathlib.Core.Option.{some}
use lib.ListN.{get_elem?}
use Rattle.std.proofs.lemmas.Bool.{eqb-true}
use Rattle.std.proofs.lemmas.List.{set-get_or}
use Rattle.std.specs.List.{list_any}
use Rattle.llsc_base.specs.Memory.{cell_of, is_aligned, row_of, size_bytes}
use Rattle.llsc_base.specs.declared.access.Place.{Place}
use Rattle.llsc_base.proofs.Cells.{cell_of-lt, class_of-lt}
use Rattle.history.specs.ArmLegal.{IsSound}
use Rattle.history.specs.Class.{edges_of}
use Rattle.history.specs.Cause.{flight_of, is_begin, is_begin_of_another, since_watch, writes_in_class}
use Rattle.history.specs.Follow.{flight_at}
use Rattle.history.specs.Reservation.{reservation_of}
use Rattle.history.specs.Standing.{Standing}
use Rattle.history.proofs.Classes.{edges_of-standing}
use Rattle.history.proofs.Flags.{overtaken-standing, stirred-standing, writes_in_class-standing}
use Rattle.history.proofs.Legality.{flight_of-standing}
use Rattle.history.proofs.Steps.{reservation_of-standing}
use Rattle.shared_memory.specs.declared.views.View.{View}
use Rattle.shared_memory.specs.Seen.{IsSingle}
use Rattle.shared_memory.specs.Passes.{marked}
use Rattle.version_rule.specs.declared.hands.Hand.{Hand}
use Rattle.shared_memory.specs.declared.plans.Plan.{Plan}
use Rattle.version_rule.specs.Exact.{IsAtLimit}
use Rattle.version_rule.specs.Hands.{class_at}
use Rattle.version_rule.specs.Knowledge.{Knows}
use Rattle.shared_memory.specs.Layout.{cell_word, tag_word}
use Rattle.version_rule.specs.Kept.{Kept}
use Rattle.version_rule.proofs.Classes.{flies-at, odd-even}

module _ (plan : Plan) where
  -- the words as they are found
  pub as-found : (words : List ℕ) (i : ℕ) (views : List (View Hand)) → Kept plan words views → Kept plan (set words i (slice_index words i)) views
  as-found words i views k = subst (λ (ws : List ℕ). Kept plan ws views) (sym (set-get_or words i 0)) k

  module _ (words : List ℕ) (views : List (View Hand)) (k : Kept plan words views) where
    pub cell-below : (p : Place) → p.addr + size_bytes p.size ≤ plan.size.mem → cell_of p < plan.size.mem / 8
    cell-below p inside = let whole = k.tells.memory.whole in cell_of-lt p (plan.size.mem / 8) (omega arith)

    -- the cell's word is memory's
    pub cell-is : (p : Place) → p.addr + size_bytes p.size ≤ plan.size.mem → slice_index words (cell_word plan.size (cell_of p)) ≡ k.standing.cells (cell_of p)
    cell-is p inside = k.laid.cells (cell_of p) (cell-below p inside)

    -- the tag's is its class's
    pub tag-is : (p : Place) → 0 < plan.size.classes → slice_index words (tag_word (class_at plan.size p)) ≡ k.standing.edges (class_at plan.size p)
    tag-is p some_class = k.laid.tags (class_at plan.size p) (class_of-lt plan.size.classes (row_of plan.size.granule p) some_class)

    -- ---- of the history

    pub writes-is : (p : Place) → writes_in_class plan.size (row_of plan.size.granule p) k.history ≡ k.standing.writes (class_at plan.size p)
    writes-is p = sym (writes_in_class-standing plan.size (row_of plan.size.granule p) plan.image.value.bytes k.history) ∙ ap (λ (s : Standing). s.writes (class_at plan.size p)) (sym k.tells.standing_is)

    pub edges-is : (p : Place) → edges_of plan.size (row_of plan.size.granule p) k.history ≡ k.standing.edges (class_at plan.size p)
    edges-is p = sym (edges_of-standing plan.size (row_of plan.size.granule p) plan.image.value.bytes k.history) ∙ ap (λ (s : Standing). s.edges (class_at plan.size p)) (sym k.tells.standing_is)

    pub reserved-is : (t : ℕ) → reservation_of plan.size t k.history ≡ k.standing.reserved t
    reserved-is t = reservation_of-standing plan.size t plan.image.value.bytes k.history ∙ ap (λ (s : Standing). s.reserved t) (sym k.tells.standing_is)

    pub overtaken-is : (t : ℕ) (p : Place) → k.standing.reserved t ≡ Some (row_of plan.size.granule p)
        → list_any (is_begin_of_another plan.size t (row_of plan.size.granule p)) (since_watch t k.history) ≡ k.standing.overtaken t
    overtaken-is t p reserved = overtaken-standing plan.size t (row_of plan.size.granule p) plan.image.value.bytes k.history (reserved-is t ∙ reserved)
        ∙ ap (λ (s : Standing). s.overtaken t) (sym k.tells.standing_is)

    pub stirred-is : (t : ℕ) (p : Place) → k.standing.reserved t ≡ Some (row_of plan.size.granule p)
        → list_any (is_begin plan.size (row_of plan.size.granule p)) (since_watch t k.history) ≡ k.standing.stirred t
    stirred-is t p reserved = stirred-standing plan.size t (row_of plan.size.granule p) plan.image.value.bytes k.history (reserved-is t ∙ reserved)
        ∙ ap (λ (s : Standing). s.stirred t) (sym k.tells.standing_is)

    pub flight-is : (t : ℕ) → flight_of t k.history ≡ flight_at (k.standing.stage t)
    flight-is t = flight_of-standing plan.size plan.image.value.bytes t k.history k.tells.follows ∙ ap (λ (s : Standing). flight_at (s.stage t)) (sym k.tells.standing_is)

    half : (n limit : ℕ) → 2 * n ≡ 2 * limit → n ≡ limit
    half n limit h = omega arith

    twice-even : (n : ℕ) → (2 * n) % 2 ≡ 0
    twice-even n = omega arith

    -- a class whose tag is twice the limit has had all of its writes
    pub spent : (p : Place) → k.standing.edges (class_at plan.size p) ≡ 2 * plan.size.limit → IsAtLimit plan.size p k.history
    spent p tag =
        let class = class_at plan.size p in
        let even : k.standing.edges class % 2 ≡ 0 = ap (λ (n : ℕ). n % 2) tag ∙ twice-even plan.size.limit in
        record {
          writes = writes-is p ∙ half (k.standing.writes class) plan.size.limit (k.classes.quiet class even ∙ tag);
          idle = λ u target flight near.
              let flies = flies-at plan.size k.standing u target (sym (flight-is u) ∙ flight) in
              let same : class_at plan.size target ≡ class = eqb-true (class_at plan.size target) class near in
              odd-even (k.standing.edges class) (ap (λ (c : ℕ). k.standing.edges c % 2) (sym same) ∙ (k.classes.lone u (class_at plan.size target) flies).0) even;
        }

    -- ---- of the seat

    module _ (seat : ℕ) (v : View Hand) (at : get_elem? views seat ≡ some v) (single : IsSingle v.lead (marked v.numbers)) where
      -- what the seat's thread knows
      pub known : Knows plan.size k.standing v.lead v.doing
      known = (k.tells.each seat v at).knows_it v.lead single.has

      pub lead-below : v.lead < plan.size.threads
      lead-below = (k.tells.each seat v at).below v.lead single.has

      pub sound : (p : Place) (value : ℕ) → is_aligned p ≡ true → p.addr + size_bytes p.size ≤ plan.size.mem → value < 256 ^ size_bytes p.size
          → IsSound plan.size.threads plan.size.mem v.lead p value
      sound p value aligned inside fits = record { known = lead-below; aligned = aligned; inside = inside; fits = fits }
