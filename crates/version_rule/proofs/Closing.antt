-- What is known of a memory by a seat that holds every number, with no call in flight: when it looks at a cell, and when the
-- memory is closed with it.
use Rattle.std.proofs.Common.{◌≡◌, ◌+◌, ◌/◌, ◌%◌, ◌<◌, ◌≤◌, ℕ, true, List, slice_index, refl, ap, sym, ◌∙◌, subst, inl, inr, arith}
use mathlib.Core.Option.{none, some}
use lib.ListN.{get_elem?}
use Rattle.std.proofs.lemmas.Bool.{cases_eq}
use Rattle.llsc_base.specs.Memory.{cell_of, class_of, size_bytes}
use Rattle.llsc_base.specs.declared.access.Place.{Place}
use Rattle.history.specs.Cause.{KeepsLimit, writes_in_class}
use Rattle.history.specs.Follow.{flight_at}
use Rattle.history.specs.Legal.{IsComplete}
use Rattle.history.specs.Standing.{Standing, rests}
use Rattle.history.specs.Steady.{AreSteady}
use Rattle.history.proofs.Flags.{writes_in_class-standing}
use Rattle.history.proofs.Legality.{rests-IsComplete}
use Rattle.atomic_table.specs.Table.{Allows, Final, Seen, keeps, step}
use Rattle.atomic_table.proofs.Lists.{set_again}
use Rattle.shared_memory.specs.declared.plans.Plan.{Plan}
use Rattle.shared_memory.specs.declared.views.View.{View}
use Rattle.shared_memory.specs.Layout.{cell_word}
use Rattle.shared_memory.specs.Passes.{marked}
use Rattle.shared_memory.specs.Seen.{IsOneOf}
use Rattle.shared_memory.specs.inner.Told.{ask}
use Rattle.shared_memory.proofs.Closing.{all-seen, cells-seen, complete-seen, legal-seen}
use Rattle.version_rule.specs.declared.hands.Doing.{Doing}
use Rattle.version_rule.specs.declared.hands.Doing.TheVariants.{Rest}
use Rattle.version_rule.specs.declared.hands.Hand.{Hand}
use Rattle.version_rule.specs.Knowledge.{IsAt, Knows}
use Rattle.version_rule.specs.Kept.{Kept, KeptBy, origin_of}
use Rattle.version_rule.specs.Left.{IsOver, cell_left}
use Rattle.version_rule.specs.Told.{Mine, left_found}
use Rattle.version_rule.proofs.Classes.{flies-none}
use Rattle.version_rule.proofs.Facts.{as-found, cell-below}

module _ (plan : Plan) where
  module _ (words : List ℕ) (views : List (View Hand)) (k : Kept plan words views) (seat : ℕ) (v : View Hand) (at : get_elem? views seat ≡ some v)
      (all : (t : ℕ) → t < plan.size.threads → IsOneOf t (marked v.numbers)) (rest : v.doing.doing ≡ Rest) where
    steady-left : AreSteady plan.size v.seen
    steady-left = subst (AreSteady plan.size) (sym (all-seen (Knows plan.size) plan views k.history k.standing seat v k.tells at all)) k.steady

    complete-left : IsComplete v.seen
    complete-left =
        complete-seen (Knows plan.size) plan views k.history k.standing seat v k.tells at all (λ t knows. subst (λ (d : Doing). IsAt plan.size k.standing t d) rest knows.at)

    -- no write is in flight, so each class has had half as many as its tag says
    few-left : KeepsLimit plan.size v.seen
    few-left row =
        let class = class_of plan.size.classes row in
        let bytes = plan.image.value.bytes in
        let seen = all-seen (Knows plan.size) plan views k.history k.standing seat v k.tells at all in
        let resting : (t : ℕ) → k.standing.stage t ≡ rests = λ t.
        ap (λ (s : Standing). s.stage t) k.tells.standing_is ∙ rests-IsComplete plan.size bytes k.history (subst IsComplete seen complete-left) t in
        let even : k.standing.edges class % 2 ≡ 0 = elim (cases_eq (k.standing.edges class % 2) 1) [
          | inl odd ↦
              let holder = k.standing.holder class in
              absurd (flies-none plan.size k.standing holder class (ap flight_at (resting holder)) (k.classes.busy class odd))
          | inr other ↦ omega arith
        ] in
        let writes : writes_in_class plan.size row v.seen ≡ k.standing.writes class =
        ap (writes_in_class plan.size row) seen ∙ sym (writes_in_class-standing plan.size row bytes k.history) ∙ ap (λ (s : Standing). s.writes class) (sym k.tells.standing_is) in
        let quiet = k.classes.quiet class even in
        let most = k.classes.most class in
        subst (λ (n : ℕ). n ≤ plan.size.limit) (sym writes) (omega arith)

    over-left : IsOver (origin_of plan) v.seen
    over-left = record {
      legal = legal-seen (Knows plan.size) plan views k.history k.standing seat v k.tells at all plan.first plan.spare true true k.born;
      complete = complete-left;
      few = few-left;
      steady = steady-left;
    }

    cells-left : (i : ℕ) → i < plan.size.mem / 8 → slice_index words (cell_word plan.size i) ≡ cell_left (origin_of plan) v.seen i
    cells-left i below = k.laid.cells i below ∙ cells-seen (Knows plan.size) plan views k.history k.standing seat v k.tells at all i below

  -- a seat that holds every number looks at a cell
  pub looks-left : (slots seat : ℕ) (me : Mine) (p : Place) (value : ℕ) → ((t : ℕ) → t < plan.size.threads → IsOneOf t (marked me.0.numbers)) → me.0.doing.doing ≡ Rest
      → p.addr + size_bytes p.size ≤ plan.size.mem
      → Allows (KeptBy plan) slots seat me (cell_word plan.size (cell_of p)) (λ n. n) (left_found (ask (origin_of plan) p value) (step slots (cell_word plan.size (cell_of p)) 0 0 none) me)
  looks-left slots seat me p value all rest inside s k long at small =
      let i = cell_word plan.size (cell_of p) in
      let v = me.0 in (
        v,
        keeps,
        tt,
        as-found plan s.words i _ (subst (Kept plan s.words) (sym (set_again s.views seat v at)) k),
        record {
          same = refl;
          over = over-left s.words s.views k seat v at all rest;
          cell_is = cells-left s.words s.views k seat v at all rest (cell_of p) (cell-below plan s.words s.views k p inside);
        },
      )

  -- a memory that is closed
  module _ (words : List ℕ) (slots : List (Unit {0})) (seat : ℕ) (v : View Hand) (all : (t : ℕ) → t < plan.size.threads → IsOneOf t (marked v.numbers)) (rest : v.doing.doing ≡ Rest)
      (final : Final (Seen (KeptBy plan) seat v) words slots) where
    pub over-closed : IsOver (origin_of plan) v.seen
    over-closed = over-left final.0.words final.0.views final.1.0 seat v final.1.1 all rest

    pub cells-closed : (i : ℕ) → i < plan.size.mem / 8 → slice_index words (cell_word plan.size i) ≡ cell_left (origin_of plan) v.seen i
    cells-closed i below = ap (λ (ws : List ℕ). slice_index ws (cell_word plan.size i)) (sym final.2) ∙ cells-left final.0.words final.0.views final.1.0 seat v final.1.1 all rest i below
