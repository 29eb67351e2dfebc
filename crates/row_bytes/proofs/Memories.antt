-- Memory as the cells that it is made of: its values, and what a store does to them.
use Rattle.std.proofs.Common.{◌≡◌, ◌≢◌, ℕ, zero, suc, ◌+◌, ◌-◌, ◌*◌, ◌/◌, ◌%◌, ◌<◌, ◌≤◌, true, List, [], ◌∷◌, ◌++◌, length, take, drop, slice_index, slice_set, refl, sym, ap, ◌∙◌, arith, length-append, length-take, length-drop, length-set, inl, inr}
use Rattle.std.proofs.lemmas.List.{get_or-take, get_or-drop, get_or_past, get_or-set_same, get_or-set_other, ext_get_or, append-nil, drop_at, drop-drop, take_at}
use Rattle.std.proofs.lemmas.Grind.{flat_map-append}
use Rattle.std.proofs.lemmas.Bool.{cases_eq, cases_lt}
use Rattle.llsc_base.specs.Memory.{bytes_of, cell_of, is_aligned, number_of, size_bytes, stored, value_at}
use Rattle.llsc_base.specs.declared.access.Place.{Place}
use Rattle.llsc_base.proofs.Bytes.{length-bytes_of, length-stored}
use Rattle.llsc_base.proofs.Stores.{stored-before, stored-within, stored-past}
use Rattle.llsc_base.proofs.Cells.{addr-cell_of, is_aligned-in_cell, cell_of-lt}
use Rattle.row_bytes.specs.Cell.{place_in_cell, value_in_cell, cell_with, cell_at, bytes_of_cells}
use Rattle.row_bytes.proofs.Numbers.{bytes_of-number_of}
use Rattle.row_bytes.proofs.Cells.{bytes_of-cell_with}

-- ---- the eight bytes of a cell of memory

abbrev cell_bytes : List ℕ → ℕ → List ℕ
cell_bytes memory index = take 8 (drop (8 * index) memory)

length-cell_bytes : (memory : List ℕ) (index : ℕ) → 8 * index + 8 ≤ length memory → length (cell_bytes memory index) ≡ 8
length-cell_bytes memory index inside = omega (arith, length-take 8 (drop (8 * index) memory), length-drop (8 * index) memory)

cell_bytes-at : (memory : List ℕ) (index k : ℕ) → k < 8 → slice_index (cell_bytes memory index) k ≡ slice_index memory (8 * index + k)
cell_bytes-at memory index k below = get_or-take 8 (drop (8 * index) memory) k 0 below ∙ get_or-drop (8 * index) memory k 0

cell_bytes-byte : (memory : List ℕ) (index : ℕ) → 8 * index + 8 ≤ length memory → ((k : ℕ) → slice_index memory k < 256)
    → (k : ℕ) → slice_index (cell_bytes memory index) k < 256
cell_bytes-byte memory index inside bytes k = elim (cases_lt k 8) [
  | inl below ↦ rw (cell_bytes-at memory index k below) (bytes (8 * index + k))
  | inr past ↦ rw (get_or_past (cell_bytes memory index) k 0 (omega (arith, length-cell_bytes memory index inside))) (omega arith)
]

-- a cell of memory spells its eight bytes
pub bytes_of-cell_at : (memory : List ℕ) (index : ℕ) → 8 * index + 8 ≤ length memory → ((k : ℕ) → slice_index memory k < 256)
    → bytes_of 8 (cell_at memory index) ≡ take 8 (drop (8 * index) memory)
bytes_of-cell_at memory index inside bytes =
    ap (λ (n : ℕ). bytes_of n (cell_at memory index)) (sym (length-cell_bytes memory index inside))
    ∙ bytes_of-number_of (cell_bytes memory index) (cell_bytes-byte memory index inside bytes)

value_at-cell_bytes : (memory : List ℕ) (place : Place) → is_aligned place ≡ true → 8 * cell_of place + 8 ≤ length memory
    → value_at memory place ≡ value_at (cell_bytes memory (cell_of place)) (place_in_cell place)
value_at-cell_bytes memory place aligned inside =
    let within = is_aligned-in_cell place aligned in
    let addr = addr-cell_of place in
    let long = length-cell_bytes memory (cell_of place) inside in
    let one : length (take (size_bytes place.size) (drop place.addr memory)) ≡ size_bytes place.size = omega (arith, length-take (size_bytes place.size) (drop place.addr memory), length-drop place.addr memory) in
    let other : length (take (size_bytes place.size) (drop (place.addr % 8) (cell_bytes memory (cell_of place)))) ≡ size_bytes place.size = omega (arith, length-take (size_bytes place.size) (drop (place.addr % 8) (cell_bytes memory (cell_of place))), length-drop (place.addr % 8) (cell_bytes memory (cell_of place))) in
    ap number_of (ext_get_or 0 (take (size_bytes place.size) (drop place.addr memory)) (take (size_bytes place.size) (drop (place.addr % 8) (cell_bytes memory (cell_of place)))) (one ∙ sym other)
    (λ k below.
    let h : k < size_bytes place.size = omega arith in
    let there : 8 * cell_of place + (place.addr % 8 + k) ≡ place.addr + k = omega arith in
    get_or-take (size_bytes place.size) (drop place.addr memory) k 0 h
    ∙ get_or-drop place.addr memory k 0
    ∙ ap (slice_index memory) (sym there)
    ∙ sym (cell_bytes-at memory (cell_of place) (place.addr % 8 + k) (omega arith))
    ∙ sym (get_or-drop (place.addr % 8) (cell_bytes memory (cell_of place)) k 0)
    ∙ sym (get_or-take (size_bytes place.size) (drop (place.addr % 8) (cell_bytes memory (cell_of place))) k 0 h)))

-- the value of a place is that of its cell
pub value_at-cell_at : (memory : List ℕ) (place : Place) → is_aligned place ≡ true → 8 * cell_of place + 8 ≤ length memory
    → ((k : ℕ) → slice_index memory k < 256) → value_at memory place ≡ value_in_cell (cell_at memory (cell_of place)) place
value_at-cell_at memory place aligned inside bytes =
    rw (bytes_of-cell_at memory (cell_of place) inside bytes) (value_at-cell_bytes memory place aligned inside)

-- a place of memory of whole cells has its whole cell there
pub cell_of-inside : (place : Place) (cells length : ℕ) → length ≡ 8 * cells → place.addr + size_bytes place.size ≤ length
    → 8 * cell_of place + 8 ≤ length
cell_of-inside place cells length whole inside = omega (arith, cell_of-lt place cells (omega arith))

-- a store sets its place in its cell
pub cell_at-stored_same : (memory : List ℕ) (place : Place) (value : ℕ) → is_aligned place ≡ true → 8 * cell_of place + 8 ≤ length memory
    → ((k : ℕ) → slice_index memory k < 256)
    → cell_at (stored memory place value) (cell_of place) ≡ cell_with (cell_at memory (cell_of place)) place value
cell_at-stored_same memory place value aligned inside bytes =
    let within = is_aligned-in_cell place aligned in
    let addr = addr-cell_of place in
    let here : place.addr + size_bytes place.size ≤ length memory = omega arith in
    let kept = length-stored memory place value here in
    let old = length-cell_bytes memory (cell_of place) inside in
    let new = length-cell_bytes (stored memory place value) (cell_of place) (omega arith) in
    let within_old : place.addr % 8 + size_bytes place.size ≤ length (cell_bytes memory (cell_of place)) = omega arith in
    let old_kept = length-stored (cell_bytes memory (cell_of place)) (place_in_cell place) value within_old in
    rw (bytes_of-cell_at memory (cell_of place) inside bytes)
    (ap number_of (ext_get_or 0 (cell_bytes (stored memory place value) (cell_of place)) (stored (cell_bytes memory (cell_of place)) (place_in_cell place) value)
    (omega arith)
    (λ k below.
    let h : k < 8 = omega arith in
    cell_bytes-at (stored memory place value) (cell_of place) k h
    ∙ elim (cases_lt k (place.addr % 8)) [
      | inl low ↦
          stored-before memory place value (8 * cell_of place + k) here (omega arith)
          ∙ sym (cell_bytes-at memory (cell_of place) k h)
          ∙ sym (stored-before (cell_bytes memory (cell_of place)) (place_in_cell place) value k within_old low)
      | inr from ↦ elim (cases_lt k (place.addr % 8 + size_bytes place.size)) [
        | inl under ↦
            let back : 8 * cell_of place + k - place.addr ≡ k - place.addr % 8 = omega arith in
            stored-within memory place value (8 * cell_of place + k) here (omega arith) (omega arith)
            ∙ ap (slice_index (bytes_of (size_bytes place.size) value)) back
            ∙ sym (stored-within (cell_bytes memory (cell_of place)) (place_in_cell place) value k within_old from under)
        | inr past ↦
            stored-past memory place value (8 * cell_of place + k) here (omega arith)
            ∙ sym (cell_bytes-at memory (cell_of place) k h)
            ∙ sym (stored-past (cell_bytes memory (cell_of place)) (place_in_cell place) value k within_old past)
      ]
    ])))

-- a store leaves the other cells
pub cell_at-stored_other : (memory : List ℕ) (place : Place) (value index : ℕ) → is_aligned place ≡ true
    → place.addr + size_bytes place.size ≤ length memory → 8 * index + 8 ≤ length memory → index ≢ cell_of place
    → cell_at (stored memory place value) index ≡ cell_at memory index
cell_at-stored_other memory place value index aligned here inside other =
    let within = is_aligned-in_cell place aligned in
    let addr = addr-cell_of place in
    let kept = length-stored memory place value here in
    let old = length-cell_bytes memory index inside in
    let new = length-cell_bytes (stored memory place value) index (omega arith) in
    ap number_of (ext_get_or 0 (cell_bytes (stored memory place value) index) (cell_bytes memory index) (omega arith)
    (λ k below.
    let h : k < 8 = omega arith in
    cell_bytes-at (stored memory place value) index k h
    ∙ elim (cases_lt (8 * index + k) place.addr) [
      | inl low ↦ stored-before memory place value (8 * index + k) here low
      | inr from ↦ stored-past memory place value (8 * index + k) here (omega arith)
    ]
    ∙ sym (cell_bytes-at memory index k h)))

-- ---- memory kept as a list of cells

pub length-bytes_of_cells : (cells : List ℕ) → length (bytes_of_cells cells) ≡ 8 * length cells
unfolding bytes_of_cells
length-bytes_of_cells [] = refl
length-bytes_of_cells (cell ∷ cells) =
    omega (arith, length-append (bytes_of 8 cell) (bytes_of_cells cells), length-bytes_of 8 cell, length-bytes_of_cells cells)

bytes_of_cells-part : (cells : List ℕ) (index : ℕ) → index < length cells
    → take 8 (drop (8 * index) (bytes_of_cells cells)) ≡ bytes_of 8 (slice_index cells index)
unfolding bytes_of_cells
bytes_of_cells-part [] index h = absurd (omega arith)
bytes_of_cells-part (cell ∷ cells) zero h =
    take_at (bytes_of 8 cell) (bytes_of_cells cells) 8 (length-bytes_of 8 cell)
bytes_of_cells-part (cell ∷ cells) (suc index) h =
    let more : 8 * suc index ≡ 8 + 8 * index = omega arith in
    let past : drop (8 + 8 * index) (bytes_of 8 cell ++ bytes_of_cells cells) ≡ drop (8 * index) (bytes_of_cells cells) =
    sym (drop-drop (8 * index) 8 (bytes_of 8 cell ++ bytes_of_cells cells))
    ∙ ap (drop (8 * index)) (drop_at (bytes_of 8 cell) (bytes_of_cells cells) 8 (length-bytes_of 8 cell)) in
    rw (more, past) (bytes_of_cells-part cells index (omega arith))

bytes_of_cells-at : (cells : List ℕ) (k : ℕ) → k < 8 * length cells
    → slice_index (bytes_of_cells cells) k ≡ slice_index (bytes_of 8 (slice_index cells (k / 8))) (k % 8)
bytes_of_cells-at cells k h =
    let here : 8 * (k / 8) + k % 8 ≡ k = omega arith in
    ap (slice_index (bytes_of_cells cells)) (sym here)
    ∙ sym (cell_bytes-at (bytes_of_cells cells) (k / 8) (k % 8) (omega arith))
    ∙ ap (λ (xs : List ℕ). slice_index xs (k % 8)) (bytes_of_cells-part cells (k / 8) (omega arith))

-- the value of a place is that of its cell in the list
pub value_at-bytes_of_cells : (cells : List ℕ) (place : Place) → is_aligned place ≡ true
    → place.addr + size_bytes place.size ≤ length (bytes_of_cells cells)
    → value_at (bytes_of_cells cells) place ≡ value_in_cell (slice_index cells (cell_of place)) place
value_at-bytes_of_cells cells place aligned inside =
    let long = length-bytes_of_cells cells in
    let within = is_aligned-in_cell place aligned in
    let addr = addr-cell_of place in
    let index : cell_of place < length cells = cell_of-lt place (length cells) (omega arith) in
    let start : 8 * cell_of place + place.addr % 8 ≡ place.addr = omega arith in
    value_at-cell_bytes (bytes_of_cells cells) place aligned (omega arith)
    ∙ ap (λ (xs : List ℕ). value_at xs (place_in_cell place)) (bytes_of_cells-part cells (cell_of place) index)

-- a store is the same list with the place set in its cell
pub stored-bytes_of_cells : (cells : List ℕ) (place : Place) (value : ℕ) → is_aligned place ≡ true
    → place.addr + size_bytes place.size ≤ length (bytes_of_cells cells)
    → stored (bytes_of_cells cells) place value
    ≡ bytes_of_cells (slice_set cells (cell_of place) (cell_with (slice_index cells (cell_of place)) place value))
stored-bytes_of_cells cells place value aligned inside =
    let i = cell_of place in
    let old = slice_index cells i in
    let new = cell_with old place value in
    let long = length-bytes_of_cells cells in
    let within = is_aligned-in_cell place aligned in
    let addr = addr-cell_of place in
    let index : i < length cells = cell_of-lt place (length cells) (omega arith) in
    let kept = length-stored (bytes_of_cells cells) place value inside in
    let same_length : length (slice_set cells i new) ≡ length cells = length-set cells i new in
    let new_long = length-bytes_of_cells (slice_set cells i new) in
    let in_old : place.addr % 8 + size_bytes place.size ≤ length (bytes_of 8 old) = omega (arith, length-bytes_of 8 old) in
    ext_get_or 0 (stored (bytes_of_cells cells) place value) (bytes_of_cells (slice_set cells i new)) (omega arith)
    (λ k below.
    let h : k < 8 * length cells = omega arith in
    let right = bytes_of_cells-at (slice_set cells i new) k (omega arith) in
    let left = bytes_of_cells-at cells k h in
    elim (cases_eq (k / 8) i) [
      | inl here ↦
          let set_here : slice_index (slice_set cells i new) (k / 8) ≡ new = ap (slice_index (slice_set cells i new)) here ∙ get_or-set_same cells i new 0 index in
          let was : slice_index (bytes_of_cells cells) k ≡ slice_index (bytes_of 8 old) (k % 8) = left ∙ ap (λ (j : ℕ). slice_index (bytes_of 8 (slice_index cells j)) (k % 8)) here in
          let is : slice_index (bytes_of_cells (slice_set cells i new)) k ≡ slice_index (stored (bytes_of 8 old) (place_in_cell place) value) (k % 8) =
          right
          ∙ ap (λ (c : ℕ). slice_index (bytes_of 8 c) (k % 8)) set_here
          ∙ ap (λ (xs : List ℕ). slice_index xs (k % 8)) (bytes_of-cell_with old place value within) in
          elim (cases_lt k place.addr) [
            | inl low ↦
                stored-before (bytes_of_cells cells) place value k inside low
                ∙ was
                ∙ sym (is ∙ stored-before (bytes_of 8 old) (place_in_cell place) value (k % 8) in_old (omega arith))
            | inr from ↦ elim (cases_lt k (place.addr + size_bytes place.size)) [
              | inl under ↦
                  let back : k % 8 - place.addr % 8 ≡ k - place.addr = omega arith in
                  stored-within (bytes_of_cells cells) place value k inside from under
                  ∙ sym (is ∙ stored-within (bytes_of 8 old) (place_in_cell place) value (k % 8) in_old (omega arith) (omega arith) ∙ ap (slice_index (bytes_of (size_bytes place.size) value)) back)
              | inr past ↦
                  stored-past (bytes_of_cells cells) place value k inside past
                  ∙ was
                  ∙ sym (is ∙ stored-past (bytes_of 8 old) (place_in_cell place) value (k % 8) in_old (omega arith))
            ]
          ]
      | inr elsewhere ↦
          let unset : slice_index (slice_set cells i new) (k / 8) ≡ slice_index cells (k / 8) = get_or-set_other cells i (k / 8) new 0 elsewhere in
          let is : slice_index (bytes_of_cells (slice_set cells i new)) k ≡ slice_index (bytes_of_cells cells) k =
          right ∙ ap (λ (c : ℕ). slice_index (bytes_of 8 c) (k % 8)) unset ∙ sym left in
          elim (cases_lt k place.addr) [
            | inl low ↦ stored-before (bytes_of_cells cells) place value k inside low ∙ sym is
            | inr from ↦
                let past : place.addr + size_bytes place.size ≤ k = omega arith in
                stored-past (bytes_of_cells cells) place value k inside past ∙ sym is
          ]
    ])

-- one more cell
pub bytes_of_cells-push : (cells : List ℕ) (cell : ℕ) → bytes_of_cells (cells ++ cell ∷ []) ≡ bytes_of_cells cells ++ bytes_of 8 cell
unfolding bytes_of_cells
bytes_of_cells-push cells cell = flat_map-append (bytes_of 8) cells (cell ∷ []) ∙ ap (λ (xs : List ℕ). bytes_of_cells cells ++ xs) (append-nil (bytes_of 8 cell))

-- no cells make no memory
pub bytes_of_cells-none : bytes_of_cells [] ≡ []
unfolding bytes_of_cells
bytes_of_cells-none = refl
