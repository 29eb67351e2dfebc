-- What the counters of a load hold, in memory and in its cells.
use Rattle.std.proofs.Common.{◌≡◌, ℕ, ◌+◌, ◌-◌, ◌<◌, Bool, true, false, List, [], ◌∷◌, length, slice_index, if◌then◌else◌, sym, ◌∙◌, ap, arith, inl, inr}
use Rattle.std.proofs.lemmas.Bool.{cases_lt}
use Rattle.std.proofs.lemmas.List.{get_or_append_left, get_or-append_right, get_or_past}
use Rattle.llsc_base.specs.Flat.{values_below}
use Rattle.llsc_base.specs.Memory.{bytes_of, cell_of, is_aligned}
use Rattle.llsc_base.proofs.Bytes.{length-bytes_of}
use Rattle.llsc_base.proofs.Stores.{bytes_of-byte}
use Rattle.llsc_base.proofs.Values.{length-values_below, slice_index-values_below}
use Rattle.row_bytes.specs.Cell.{value_in_cell}
use Rattle.row_bytes.proofs.Memories.{value_at-cell_at}
use Rattle.elf32.specs.Units.{code_bytes, unit_byte}
use Rattle.guest_gen.specs.Counters.{counter_in, counter_place, counter_unit}
use Rattle.history.specs.Legal.{IsLegal}
use Rattle.history.specs.Monitor.{at_rest_by}
use Rattle.history.specs.Parts.{accesses_of}
use Rattle.history.specs.declared.entry.Entry.{Entry}
use Rattle.history.proofs.CellLaws.{CellsAre-standing}
use Rattle.history.proofs.Marks.{IsAsLarge-monitor_after}
use Rattle.llsc_call.specs.Beside.{AreCells, left_by}
use Rattle.llsc_report.specs.Summary.{counter_of}
use Rattle.llsc_call.specs.Load.{load_program, load_size}

-- ---- the program's bytes

code-byte : (words : List ℕ) (k : ℕ) → slice_index (code_bytes words) k < 256
code-byte [] k = omega arith
code-byte (word ∷ words) k = elim (cases_lt k 4) [
  | inl here ↦
      let long : length (bytes_of 4 word) ≡ 4 = length-bytes_of 4 word in
      rw (get_or_append_left (bytes_of 4 word) (code_bytes words) 0 k (omega (arith, long))) (bytes_of-byte 4 word k)
  | inr behind ↦ rw (get_or-append_right (bytes_of 4 word) (code_bytes words) 4 k 0 (length-bytes_of 4 word) behind) (code-byte words (k - 4))
]

either-byte : (a b : Bool) (x y : ℕ) → x < 256 → y < 256 → (if a then x else if b then y else 0) < 256
either-byte true b x y first second = first
either-byte false true x y first second = second
either-byte false false x y first second = omega arith

nothing-byte : (k : ℕ) → slice_index [] k < 256
nothing-byte k = omega arith

guest-byte : (seed rounds addr : ℕ) → unit_byte (counter_unit seed rounds) addr < 256
guest-byte seed rounds addr = either-byte _ _ _ _ (code-byte (counter_unit seed rounds).words _) (nothing-byte addr)

below-byte : (mem : ℕ) (f : ℕ → ℕ) → ((k : ℕ) → f k < 256) → (k : ℕ) → slice_index (values_below mem f) k < 256
below-byte mem f small k = elim (cases_lt k mem) [
  | inl below ↦ rw (slice_index-values_below mem f k below) (small k)
  | inr past ↦ rw (get_or_past (values_below mem f) k 0 (omega (arith, length-values_below mem f))) (omega arith)
]

-- ---- memory as it is left

left-byte : (seed threads rounds : ℕ) (history : List Entry) → IsLegal (load_size threads) (load_program seed threads rounds).bytes history
    → (k : ℕ) → slice_index (left_by (load_program seed threads rounds) (load_size threads) history) k < 256
left-byte seed threads rounds history legal =
    let program = load_program seed threads rounds in
    (CellsAre-standing (load_size threads) program.bytes threads (accesses_of history)
    (below-byte (load_size threads).mem (unit_byte (counter_unit seed rounds)) (guest-byte seed rounds)) legal.accesses).bytes

left-length : (seed threads rounds : ℕ) (history : List Entry) → IsLegal (load_size threads) (load_program seed threads rounds).bytes history
    → length (left_by (load_program seed threads rounds) (load_size threads) history) ≡ 1048576
left-length seed threads rounds history legal =
    let program = load_program seed threads rounds in
    (IsAsLarge-monitor_after (at_rest_by 0 program.bytes threads) (accesses_of history) legal.accesses).bytes
    ∙ length-values_below 1048576 (unit_byte (counter_unit seed rounds))

counter-cell : (i : ℕ) → cell_of (counter_place i) ≡ 1024 + i
unfolding cell_of
counter-cell i = omega arith

counter-aligned : (i : ℕ) → is_aligned (counter_place i) ≡ true
counter-aligned i = grind arith

-- a counter is in its cell
pub counters_left : (seed threads rounds : ℕ) (history : List Entry) (cells : List ℕ)
    → IsLegal (load_size threads) (load_program seed threads rounds).bytes history
    → AreCells (load_size threads) (left_by (load_program seed threads rounds) (load_size threads) history) cells
    → (i : ℕ) → i < 16 → counter_of cells i ≡ counter_in (left_by (load_program seed threads rounds) (load_size threads) history) i
counters_left seed threads rounds history cells legal are i known =
    let memory = left_by (load_program seed threads rounds) (load_size threads) history in
    let place = counter_place i in
    let index = counter-cell i in
    let long = left-length seed threads rounds history legal in
    let within : cell_of place < length cells = omega (arith, index, are.count) in
    ap (λ (c : ℕ). value_in_cell c place) (are.each (cell_of place) within)
    ∙ sym (value_at-cell_at memory place (counter-aligned i) (omega (arith, index, long)) (left-byte seed threads rounds history legal))
