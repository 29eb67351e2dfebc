-- What is known of a memory that is closed with a pass that holds every number.
use Rattle.std.proofs.Common.{◌≡◌, ◌+◌, ◌/◌, ◌<◌, ℕ, Bool, List, take, drop, slice_index, ap, sym, ◌∙◌, subst, get_or-take, get_or-drop, arith}
use mathlib.Core.Option.{some}
use lib.ListN.{get_elem?}
use Rattle.row_bytes.specs.Cell.{cell_at}
use Rattle.history.specs.Legal.{IsComplete}
use Rattle.history.specs.Monitor.{at_rest_by, monitor_after}
use Rattle.history.specs.Parts.{accesses_of}
use Rattle.history.specs.Started.{AreBorn}
use Rattle.history.specs.Standing.{Standing, rests}
use Rattle.history.specs.declared.entry.Entry.{Entry}
use Rattle.shared_memory.specs.declared.plans.Plan.{Plan}
use Rattle.shared_memory.specs.declared.views.View.{View}
use Rattle.shared_memory.specs.Origin.{IsLegalFrom}
use Rattle.shared_memory.specs.Passes.{marked}
use Rattle.shared_memory.specs.Rule.{Tells}
use Rattle.shared_memory.specs.Seen.{IsOneOf}
use Rattle.shared_memory.proofs.Closed.{cells, complete, whole}
use Rattle.shared_memory.proofs.Grown.{legal-tells}

module _ {D : Type 0} (knows : Standing → ℕ → D → Type 0) (plan : Plan) (views : List (View D)) (history : List Entry) (s : Standing) (seat : ℕ) (v : View D)
    (tells : Tells knows plan.size plan.image.value.bytes views history s) (at : get_elem? views seat ≡ some v) (all : (t : ℕ) → t < plan.size.threads → IsOneOf t (marked v.numbers)) where
  -- it has seen the whole history
  pub all-seen : v.seen ≡ history
  all-seen = whole knows plan.size plan.image.value.bytes views history s seat v tells at all

  pub legal-seen : (first spare : ℕ) (spends steady : Bool) → AreBorn first spare history
      → IsLegalFrom (record { size = plan.size; first = first; spare = spare; bytes = plan.image.value.bytes; spends = spends; steady = steady }) v.seen
  legal-seen first spare spends steady born =
      subst (λ (l : List Entry). IsLegalFrom (record { size = plan.size; first = first; spare = spare; bytes = plan.image.value.bytes; spends = spends; steady = steady }) l) (sym all-seen)
      (legal-tells knows plan.size plan.image.value.bytes views history s first spare spends steady tells born)

  pub complete-seen : ((t : ℕ) → knows s t v.doing → s.stage t ≡ rests) → IsComplete v.seen
  complete-seen rest = subst IsComplete (sym all-seen) (complete knows plan.size plan.image.value.bytes views history s seat v tells at all rest)

  pub cells-seen : (i : ℕ) → i < plan.size.mem / 8
      → s.cells i ≡ cell_at (monitor_after (at_rest_by plan.size.granule plan.image.value.bytes plan.size.threads) (accesses_of v.seen)).memory i
  cells-seen i below =
      cells knows plan.size plan.image.value.bytes views history s tells i (let whole_cells = tells.memory.whole in omega arith)
      ∙ ap (λ (l : List Entry). cell_at (monitor_after (at_rest_by plan.size.granule plan.image.value.bytes plan.size.threads) (accesses_of l)).memory i) (sym all-seen)

-- a word of a part of the table
pub part-at : (words : List ℕ) (first count i : ℕ) → i < count → slice_index (take count (drop first words)) i ≡ slice_index words (first + i)
part-at words first count i h = get_or-take count (drop first words) i 0 h ∙ get_or-drop first words i 0
