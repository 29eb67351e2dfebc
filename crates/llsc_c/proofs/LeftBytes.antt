-- The bytes that a memory leaves, where it is known which bytes its history leaves there.
use Rattle.std.proofs.Common.{◌≡◌, ◌≤◌, ◌<◌, ◌+◌, ◌*◌, ◌/◌, ◌%◌, ◌==◌, ◌&&◌, ◌++◌, ℕ, zero, suc, List, length, map, slice_index, take, drop, sym, ap, ◌∙◌, inl, inr, arith}
use Rattle.std.specs.Prelude.{All, nat_le}
use Rattle.std.specs.List.{range_with_len}
use Rattle.std.proofs.lemmas.Bool.{and_parts, cases_Bool, cases_lt, eqb-true}
use Rattle.std.proofs.lemmas.List.{drop-take, get_or_past, take-append-drop, take-take, take_all}
use Rattle.std.proofs.lemmas.List.FromFn.{map-range_with_len_more}
use Rattle.llsc_base.specs.Memory.{bytes_of, size_bytes, stored}
use Rattle.llsc_base.specs.Sizes.{AreInRange, Numbers, is_mem}
use Rattle.llsc_base.specs.declared.access.Place.{Place}
use Rattle.row_bytes.specs.Cell.{bytes_of_cells, cell_at}
use Rattle.row_bytes.proofs.Memories.{bytes_of-cell_at, bytes_of_cells-none, bytes_of_cells-push}
use Rattle.history.specs.Monitor.{at_rest_by, monitor_after}
use Rattle.history.specs.Parts.{accesses_of}
use Rattle.history.specs.declared.entry.Entry.{Entry}
use Rattle.shared_memory.specs.Origin.{Origin}
use Rattle.memory_handle.specs.Accesses.{IsPlaceOf}
use Rattle.memory_handle.specs.Left.{bytes_left}
use Rattle.llsc_c.specs.Sequences.{with_value}

-- each element of a list is a byte, and what lies past its end counts as 0
pub bytes_everywhere : (bytes : List ℕ) → All (λ byte. byte < 256) bytes → (k : ℕ) → slice_index bytes k < 256
bytes_everywhere bytes all k = elim (cases_lt k (length bytes)) [
  | inl within ↦ all k 0 within
  | inr past ↦ rw (get_or_past bytes k 0 past) (omega arith)
]

-- memory is of whole cells
pub whole_cells : (size : Numbers) → AreInRange size → size.mem % 8 ≡ 0
whole_cells size range = elim (cases_Bool (is_mem size.mem)) [
  | inl is ↦
      let pages : size.mem % 4096 ≡ 0 = eqb-true (size.mem % 4096) 0 (and_parts (nat_le 65536 size.mem && nat_le size.mem 16777216) (size.mem % 4096 == 0) is).1 in
      omega (arith, pages)
  | inr other ↦ absurd (let wrong = rw other at range in let f : ⊥ = cc in f)
]

-- the first cells of a memory spell its first bytes
cells_spell : (memory : List ℕ) (count : ℕ) → 8 * count ≤ length memory → ((k : ℕ) → slice_index memory k < 256)
    → bytes_of_cells (map (cell_at memory) (range_with_len 0 count)) ≡ take (8 * count) memory
cells_spell memory zero inside small = bytes_of_cells-none
cells_spell memory (suc count) inside small =
    let front : 8 * count ≤ length memory = omega (arith, inside) in
    let here : 8 * count + 8 ≤ length memory = omega (arith, inside) in
    let next : 8 * suc count ≡ 8 * count + 8 = omega arith in
    let one : suc count ≡ count + 1 = omega arith in
    ap (λ (n : ℕ). bytes_of_cells (map (cell_at memory) (range_with_len 0 n))) one
    ∙ ap bytes_of_cells (map-range_with_len_more (cell_at memory) 0 count count (omega arith))
    ∙ bytes_of_cells-push (map (cell_at memory) (range_with_len 0 count)) (cell_at memory count)
    ∙ ap (λ (bytes : List ℕ). bytes ++ bytes_of 8 (cell_at memory count)) (cells_spell memory count front small)
    ∙ ap (λ (bytes : List ℕ). take (8 * count) memory ++ bytes) (bytes_of-cell_at memory count here small)
    ∙ ap (λ (bytes : List ℕ). bytes ++ take 8 (drop (8 * count) memory)) (sym (take-take (8 * count) (8 * count + 8) memory (omega arith)))
    ∙ ap (λ (bytes : List ℕ). take (8 * count) (take (8 * count + 8) memory) ++ bytes) (sym (drop-take (8 * count) 8 memory))
    ∙ take-append-drop (8 * count) (take (8 * count + 8) memory)
    ∙ ap (λ (n : ℕ). take n memory) (sym next)

-- so what is left are the bytes that the history leaves
pub left_are : (origin : Origin) (history : List Entry) (bytes : List ℕ)
    → (monitor_after (at_rest_by origin.size.granule origin.bytes origin.size.threads) (accesses_of history)).memory ≡ bytes
    → length bytes ≡ origin.size.mem → origin.size.mem % 8 ≡ 0 → ((k : ℕ) → slice_index bytes k < 256) → bytes_left origin history ≡ bytes
left_are origin history bytes are long whole small =
    let count = origin.size.mem / 8 in
    let all : 8 * count ≡ length bytes = omega (arith, long, whole) in
    ap (λ (memory : List ℕ). bytes_of_cells (map (cell_at memory) (range_with_len 0 count))) are
    ∙ cells_spell bytes count (omega (arith, all)) small
    ∙ take_all (8 * count) bytes (omega (arith, all))

-- a store puts its value in
pub puts_in : (bytes : List ℕ) (addr width value : ℕ) (place : Place) → IsPlaceOf addr width place → stored bytes place value ≡ with_value bytes addr width value
puts_in bytes addr width value place is =
    ap (λ (a : ℕ). with_value bytes a (size_bytes place.size) value) is.addr_is ∙ ap (λ (w : ℕ). with_value bytes addr w value) is.width_is
