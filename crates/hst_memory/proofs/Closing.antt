-- What is known of a memory that is closed with a pass that holds every number.
use Rattle.std.proofs.Common.{◌≡◌, ◌/◌, ◌<◌, ℕ, false, List, slice_index, ap, sym, ◌∙◌, subst}
use Rattle.row_bytes.specs.Cell.{cell_at}
use Rattle.history.specs.Legal.{IsComplete}
use Rattle.history.specs.Monitor.{at_rest_by, monitor_after}
use Rattle.history.specs.Parts.{accesses_of}
use Rattle.atomic_table.specs.Table.{Final, Seen}
use Rattle.shared_memory.specs.declared.plans.Plan.{Plan}
use Rattle.shared_memory.specs.declared.views.View.{View}
use Rattle.shared_memory.specs.Layout.{cell_word}
use Rattle.shared_memory.specs.Origin.{IsLegalFrom}
use Rattle.shared_memory.specs.Passes.{marked}
use Rattle.shared_memory.specs.Seen.{IsOneOf}
use Rattle.shared_memory.proofs.Closing.{cells-seen, complete-seen, legal-seen}
use Rattle.hst_memory.specs.declared.hands.Doing.{Doing}
use Rattle.hst_memory.specs.declared.hands.Doing.TheVariants.{Rest}
use Rattle.hst_memory.specs.declared.hands.Hand.{Hand}
use Rattle.hst_memory.specs.inner.Knowledge.{IsAt, Knows}
use Rattle.hst_memory.specs.Kept.{origin_of}
use Rattle.hst_memory.specs.inner.Kept.{KeptBy}

module _ (plan : Plan) (words : List ℕ) (slots : List (Unit {0})) (seat : ℕ) (v : View Hand) (all : (t : ℕ) → t < plan.size.threads → IsOneOf t (marked v.numbers)) (rest : v.doing.doing ≡ Rest)
    (final : Final (Seen (KeptBy plan) seat v) words slots) where
  pub legal-closed : IsLegalFrom (origin_of plan) v.seen
  legal-closed = let k = final.1.0 in legal-seen (Knows plan.size) plan final.0.views k.history k.standing seat v k.tells final.1.1 all plan.size.threads 0 false false k.born

  pub complete-closed : IsComplete v.seen
  complete-closed =
      let k = final.1.0 in
      complete-seen (Knows plan.size) plan final.0.views k.history k.standing seat v k.tells final.1.1 all (λ t knows. subst (λ (d : Doing). IsAt plan.size k.standing t d) rest knows.at)

  pub rows-closed : (i : ℕ) → i < plan.size.mem / 8
      → slice_index words (cell_word plan.size i) ≡ cell_at (monitor_after (at_rest_by plan.size.granule plan.image.value.bytes plan.size.threads) (accesses_of v.seen)).memory i
  rows-closed i below =
      let k = final.1.0 in
      ap (λ (ws : List ℕ). slice_index ws (cell_word plan.size i)) (sym final.2) ∙ k.laid.cells i below
      ∙ cells-seen (Knows plan.size) plan final.0.views k.history k.standing seat v k.tells final.1.1 all i below
