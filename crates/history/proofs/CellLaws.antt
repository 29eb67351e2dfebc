-- The memory that accesses leave is how things stand of its cells.
use Rattle.std.proofs.Common.{◌≡◌, ℕ, ◌+◌, ◌*◌, ◌<◌, ◌≤◌, true, List, [], ◌∷◌, length, slice_index, refl, sym, ap, subst, ◌∙◌, inl, inr, arith}
use Rattle.std.proofs.lemmas.Bool.{cases_eq}
use Rattle.llsc_base.specs.Sizes.{Numbers}
use Rattle.llsc_base.specs.Memory.{cell_of, is_aligned, size_bytes, stored, value_at}
use Rattle.llsc_base.specs.declared.access.Place.{Place}
use Rattle.llsc_base.proofs.Stores.{stored-byte}
use Rattle.row_bytes.specs.Cell.{cell_at, cell_with, value_in_cell}
use Rattle.row_bytes.proofs.Memories.{cell_at-stored_same, cell_at-stored_other, cell_of-inside, value_at-cell_at}
use Rattle.history.specs.Monitor.{Monitor, accessed, at_rest_by, monitor_after}
use Rattle.history.specs.ArmLegal.{IsArmLegal, IsSound, MayAccess}
use Rattle.history.specs.Standing.{Standing, joined, standing_after, standing_of, updated}
use Rattle.history.specs.declared.entry.Entry.{Entry}
use Rattle.history.specs.declared.entry.Entry.TheVariants.{Read, Write, Fail, Clear, Watch, Miss, Begin, End, Start}
use Rattle.history.proofs.Marks.{IsAsLarge-accessed, updated-same, updated-other}

-- memory is of bytes, and its cells are how things stand
pub record CellsAre (m : Monitor) (s : Standing) : Type 0 where
  pub bytes : (k : ℕ) → slice_index m.memory k < 256
  pub cells : (i : ℕ) → 8 * i + 8 ≤ length m.memory → s.cells i ≡ cell_at m.memory i

stored_cells : (m : Monitor) (s : Standing) (place : Place) (value thread threads : ℕ) → IsSound threads (length m.memory) thread place value
    → CellsAre m s → (i : ℕ) → 8 * i + 8 ≤ length m.memory
    → updated s.cells (cell_of place) (cell_with (s.cells (cell_of place)) place value) i ≡ cell_at (stored m.memory place value) i
stored_cells m s place value thread threads sound are i inside = elim (cases_eq i (cell_of place)) [
  | inl same ↦
      let within : 8 * cell_of place + 8 ≤ length m.memory = let P : ℕ → Type 0 = λ j. 8 * j + 8 ≤ length m.memory in subst P same inside in
      rw same
      (updated-same s.cells (cell_of place) (cell_with (s.cells (cell_of place)) place value)
      ∙ ap (λ (c : ℕ). cell_with c place value) (are.cells (cell_of place) within)
      ∙ sym (cell_at-stored_same m.memory place value sound.aligned within are.bytes))
  | inr other ↦
      updated-other s.cells (cell_of place) (cell_with (s.cells (cell_of place)) place value) i other
      ∙ are.cells i inside
      ∙ sym (cell_at-stored_other m.memory place value i sound.aligned sound.inside inside other)
]

-- one more entry
pub CellsAre-step : (size : Numbers) (m : Monitor) (s : Standing) (e : Entry) → MayAccess m e → CellsAre m s → CellsAre (accessed m e) (joined size s e)
CellsAre-step size m s (Read thread place value ex) may are = record { bytes = are.bytes; cells = are.cells }
CellsAre-step size m s (Write thread place value ex) may are =
    let kept = IsAsLarge-accessed m (Write thread place value ex) may in
    record {
      bytes = stored-byte m.memory place value may.0.inside are.bytes;
      cells = λ i inside. stored_cells m s place value thread (length m.marks) may.0 are i (omega (arith, kept.bytes));
    }
CellsAre-step size m s (Fail thread place value cause) may are = record { bytes = are.bytes; cells = are.cells }
CellsAre-step size m s (Clear thread) may are = record { bytes = are.bytes; cells = are.cells }
CellsAre-step size m s (Watch thread place) may are = record { bytes = are.bytes; cells = are.cells }
CellsAre-step size m s (Miss thread place) may are = record { bytes = are.bytes; cells = are.cells }
CellsAre-step size m s (Begin thread place) may are = record { bytes = are.bytes; cells = are.cells }
CellsAre-step size m s (End thread place) may are = record { bytes = are.bytes; cells = are.cells }
CellsAre-step size m s (Start thread child entry arg) may are = record { bytes = are.bytes; cells = are.cells }

CellsAre-after : (size : Numbers) (m : Monitor) (s : Standing) (entries : List Entry) → IsArmLegal m entries → CellsAre m s
    → CellsAre (monitor_after m entries) (standing_after size s entries)
CellsAre-after size m s [] legal are = are
CellsAre-after size m s (e ∷ es) legal are = CellsAre-after size (accessed m e) (joined size s e) es legal.1 (CellsAre-step size m s e legal.0 are)

-- from the start on
pub CellsAre-standing : (size : Numbers) (bytes : List ℕ) (threads : ℕ) (history : List Entry) → ((k : ℕ) → slice_index bytes k < 256)
    → IsArmLegal (at_rest_by size.granule bytes threads) history
    → CellsAre (monitor_after (at_rest_by size.granule bytes threads) history) (standing_after size (standing_of bytes) history)
CellsAre-standing size bytes threads history small legal =
    CellsAre-after size (at_rest_by size.granule bytes threads) (standing_of bytes) history legal (record { bytes = small; cells = λ i inside. refl })

-- the value of a place is that of its cell
pub value_at-CellsAre : (m : Monitor) (s : Standing) (place : Place) (count : ℕ) → CellsAre m s → length m.memory ≡ 8 * count
    → is_aligned place ≡ true → place.addr + size_bytes place.size ≤ length m.memory
    → value_at m.memory place ≡ value_in_cell (s.cells (cell_of place)) place
value_at-CellsAre m s place count are whole aligned inside =
    let within = cell_of-inside place count (length m.memory) whole inside in
    value_at-cell_at m.memory place aligned within are.bytes ∙ ap (λ (c : ℕ). value_in_cell c place) (sym (are.cells (cell_of place) within))
