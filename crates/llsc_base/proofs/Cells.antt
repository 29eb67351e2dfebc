-- Where a place lies in its cell, and which cells and classes there are.
use Rattle.std.proofs.Common.{◌≡◌, ℕ, ◌+◌, ◌*◌, ◌/◌, ◌%◌, ◌^◌, ◌<◌, ◌≤◌, true, ap, sym, ◌∙◌, arith}
use Rattle.std.proofs.lemmas.Nat.{pow-add}
use Rattle.std.proofs.Math.Nat.{div-div-eq-div-mul}
use Rattle.llsc_base.specs.Memory.{size_bytes, is_aligned, cell_of, class_of, row_of}
use Rattle.llsc_base.specs.declared.access.Size.{Size}
use Rattle.llsc_base.specs.declared.access.Size.TheVariants.{B1, B2, B4, B8}
use Rattle.llsc_base.specs.declared.access.Place.{Place}

-- a size has at least one byte
pub size_bytes-pos : (size : Size) → 0 < size_bytes size
size_bytes-pos B1 = omega arith
size_bytes-pos B2 = omega arith
size_bytes-pos B4 = omega arith
size_bytes-pos B8 = omega arith

-- an address is that of its cell, and an index of the eight bytes
pub addr-cell_of : (place : Place) → place.addr ≡ 8 * cell_of place + place.addr % 8
unfolding cell_of
addr-cell_of place = omega arith

-- a place in memory of whole cells lies in one of them
pub cell_of-lt : (place : Place) (cells : ℕ) → place.addr + size_bytes place.size ≤ 8 * cells → cell_of place < cells
cell_of-lt place cells inside = omega (arith, addr-cell_of place, size_bytes-pos place.size)

in_cell : (addr : ℕ) (size : Size) → is_aligned (record { addr = addr; size = size }) ≡ true → addr % 8 + size_bytes size ≤ 8
in_cell addr B1 h = grind arith
in_cell addr B2 h = grind arith
in_cell addr B4 h = grind arith
in_cell addr B8 h = grind arith

-- an aligned place lies in one cell
pub is_aligned-in_cell : (place : Place) → is_aligned place ≡ true → place.addr % 8 + size_bytes place.size ≤ 8
is_aligned-in_cell place h = in_cell place.addr place.size h

-- there are so many classes
pub class_of-lt : (classes row : ℕ) → 0 < classes → class_of classes row < classes
unfolding class_of
class_of-lt classes row h = omega arith

-- a row is some cells together
row_of-cell_of : (granule : ℕ) (place : Place) → row_of granule place ≡ cell_of place / 2 ^ granule
unfolding row_of cell_of
row_of-cell_of granule place = ap (λ n. place.addr / n) (pow-add 2 3 granule) ∙ sym (div-div-eq-div-mul place.addr 8 (2 ^ granule))

-- places of one cell are of one row, whatever the granule is
pub row_of-same_cell : (granule : ℕ) (place other : Place) → cell_of place ≡ cell_of other → row_of granule place ≡ row_of granule other
row_of-same_cell granule place other same =
    row_of-cell_of granule place ∙ ap (λ c. c / 2 ^ granule) same ∙ sym (row_of-cell_of granule other)

-- a byte of an aligned place is of the place's cell
cell_of-byte : (place : Place) (k : ℕ) → is_aligned place ≡ true → place.addr ≤ k → k < place.addr + size_bytes place.size
    → cell_of (record { addr = k; size = B1 }) ≡ cell_of place
unfolding cell_of
cell_of-byte place k aligned from below = omega (arith, is_aligned-in_cell place aligned)

-- and of its row
pub row_of-byte : (granule : ℕ) (place : Place) (k : ℕ) → is_aligned place ≡ true → place.addr ≤ k → k < place.addr + size_bytes place.size
    → row_of granule (record { addr = k; size = B1 }) ≡ row_of granule place
row_of-byte granule place k aligned from below =
    row_of-same_cell granule (record { addr = k; size = B1 }) place (cell_of-byte place k aligned from below)
