-- Places in cells, and memory as the cells that it is made of.
use Rattle.std.proofs.Common.{◌≡◌, ℕ, zero, suc, ◌+◌, ◌-◌, ◌*◌, ◌/◌, ◌%◌, ◌^◌, ◌<◌, ◌≤◌, ◌⊎◌, true, bit_and, ◌++◌, length, take, drop, slice_index, refl, sym, ap, subst, ◌∙◌, arith, length-append, length-take, pow-add}
use Rattle.std.proofs.lemmas.Nat.{and_mask}
use Rattle.std.proofs.Math.Nat.{div-div-eq-div-mul, div-lt_iff_lt-mul, mod-eq_of_lt, mod-add-div, mul-le-mul_left, one-le-pow, pow-le-pow_right, pow-suc}
use Rattle.llsc_base.specs.Memory.{bytes_of, is_aligned, number_of, size_bytes, stored}
use Rattle.llsc_base.specs.declared.access.Place.{Place}
use Rattle.llsc_base.proofs.Bytes.{length-bytes_of, number_of-bytes_of, length-stored, number_of-lt, value_at-lt}
use Rattle.llsc_base.proofs.Stores.{bytes_of-byte, stored-byte, value_at-stored, value_at-stored_apart}
use Rattle.llsc_base.proofs.Cells.{is_aligned-in_cell}
use Rattle.row_bytes.specs.Cell.{place_in_cell, value_in_cell, cell_with}
use Rattle.row_bytes.proofs.Numbers.{take-bytes_of, drop-bytes_of, number_of-part, number_of-append, bytes_of-number_of}

-- ---- values and cells in arithmetic

pow256-pos : (n : ℕ) → 0 < 256 ^ n
pow256-pos n = omega (arith, one-le-pow n 256 (omega arith))

-- a byte is eight bits
pub pow-bytes : (n : ℕ) → 2 ^ (8 * n) ≡ 256 ^ n
pow-bytes zero = refl
pow-bytes (suc n) = let more : 8 * suc n ≡ 8 * n + 8 = omega arith in rw (more, pow-add 2 (8 * n) 8, pow-bytes n, pow-suc 256 n) refl

-- the value of a place in a cell, as the cell's number has it
pub value_in_cell-is : (cell : ℕ) (place : Place) → place.addr % 8 + size_bytes place.size ≤ 8
    → value_in_cell cell place ≡ cell / 256 ^ (place.addr % 8) % 256 ^ size_bytes place.size
value_in_cell-is cell place inside = number_of-part (size_bytes place.size) (place.addr % 8) 8 cell inside

front_number : (cell at n value : ℕ) → at + n ≤ 8 → value < 256 ^ n
    → number_of (take at (bytes_of 8 cell) ++ bytes_of n value) ≡ cell % 256 ^ at + 256 ^ at * value
front_number cell at n value inside fits =
    number_of-append (take at (bytes_of 8 cell)) (bytes_of n value)
    ∙ rw (take-bytes_of at 8 cell (omega arith), number_of-bytes_of at cell, length-bytes_of at cell, number_of-bytes_of n value, mod-eq_of_lt fits) refl

-- the bytes of a number above so many, where it has no more than eight
high_number : (cell at : ℕ) → at ≤ 8 → cell < 2 ^ 64 → number_of (drop at (bytes_of 8 cell)) ≡ cell / 256 ^ at
high_number cell at inside small =
    let eight : 8 - at + at ≡ 8 = omega arith in
    let split : 256 ^ (8 - at) * 256 ^ at ≡ 2 ^ 64 = sym (pow-add 256 (8 - at) at) ∙ ap (λ (k : ℕ). 256 ^ k) eight in
    let below : cell / 256 ^ at < 256 ^ (8 - at) = (div-lt_iff_lt-mul {k = 256 ^ at} {x = cell} {y = 256 ^ (8 - at)} (pow256-pos at)).1 (rw split small) in
    rw (drop-bytes_of at 8 cell inside) (number_of-bytes_of (8 - at) (cell / 256 ^ at) ∙ mod-eq_of_lt below)

with_number : (cell at n value : ℕ) → at + n ≤ 8 → value < 256 ^ n → cell < 2 ^ 64
    → number_of (take at (bytes_of 8 cell) ++ bytes_of n value ++ drop (at + n) (bytes_of 8 cell))
    ≡ cell % 256 ^ at + 256 ^ at * value + 256 ^ at * 256 ^ n * (cell / (256 ^ at * 256 ^ n))
with_number cell at n value inside fits small =
    let front : length (take at (bytes_of 8 cell) ++ bytes_of n value) ≡ at + n = omega (arith, length-append (take at (bytes_of 8 cell)) (bytes_of n value), length-take at (bytes_of 8 cell), length-bytes_of 8 cell, length-bytes_of n value) in
    number_of-append (take at (bytes_of 8 cell) ++ bytes_of n value) (drop (at + n) (bytes_of 8 cell))
    ∙ rw (front_number cell at n value inside fits, front, high_number cell (at + n) inside small, pow-add 256 at n) refl

-- the cell with a place set, as the numbers have it
pub cell_with-is : (cell : ℕ) (place : Place) (value : ℕ) → place.addr % 8 + size_bytes place.size ≤ 8
    → value < 256 ^ size_bytes place.size → cell < 2 ^ 64
    → cell_with cell place value + 256 ^ (place.addr % 8) * value_in_cell cell place ≡ cell + 256 ^ (place.addr % 8) * value
cell_with-is cell place value inside fits small =
    let P = 256 ^ (place.addr % 8) in
    let M = 256 ^ size_bytes place.size in
    let low : cell % P + P * (cell / P) ≡ cell = mod-add-div cell P in
    let high : cell / P % M + M * (cell / P / M) ≡ cell / P = mod-add-div (cell / P) M in
    let two : cell / P / M ≡ cell / (P * M) = div-div-eq-div-mul cell P M in
    let scaled : P * (cell / P % M + M * (cell / P / M)) ≡ P * (cell / P) = ap (λ (x : ℕ). P * x) high in
    let top : P * M * (cell / P / M) ≡ P * M * (cell / (P * M)) = ap (λ (x : ℕ). P * M * x) two in
    rw (value_in_cell-is cell place inside, with_number cell (place.addr % 8) (size_bytes place.size) value inside fits small) (omega arith)

-- ---- cells are numbers of eight bytes

-- a cell as memory of eight bytes
cell_byte : (cell k : ℕ) → slice_index (bytes_of 8 cell) k < 256
cell_byte cell k = bytes_of-byte 8 cell k

inside_cell : (cell : ℕ) (place : Place) → place.addr % 8 + size_bytes place.size ≤ 8
    → place.addr % 8 + size_bytes place.size ≤ length (bytes_of 8 cell)
inside_cell cell place inside = omega (arith, length-bytes_of 8 cell)

-- a value of a place fits its size
pub value_in_cell-lt : (cell : ℕ) (place : Place) → place.addr % 8 + size_bytes place.size ≤ 8
    → value_in_cell cell place < 256 ^ size_bytes place.size
value_in_cell-lt cell place inside = value_at-lt (bytes_of 8 cell) (place_in_cell place) (cell_byte cell) (inside_cell cell place inside)

-- the bytes of a cell after a store are those of its bytes after it
pub bytes_of-cell_with : (cell : ℕ) (place : Place) (value : ℕ) → place.addr % 8 + size_bytes place.size ≤ 8
    → bytes_of 8 (cell_with cell place value) ≡ stored (bytes_of 8 cell) (place_in_cell place) value
bytes_of-cell_with cell place value inside =
    let within = inside_cell cell place inside in
    let long : length (stored (bytes_of 8 cell) (place_in_cell place) value) ≡ 8 = length-stored (bytes_of 8 cell) (place_in_cell place) value within ∙ length-bytes_of 8 cell in
    let back = bytes_of-number_of (stored (bytes_of 8 cell) (place_in_cell place) value) (stored-byte (bytes_of 8 cell) (place_in_cell place) value within (cell_byte cell)) in
    ap (λ (n : ℕ). bytes_of n (cell_with cell place value)) (sym long) ∙ back

pub cell_with-lt : (cell : ℕ) (place : Place) (value : ℕ) → place.addr % 8 + size_bytes place.size ≤ 8 → cell_with cell place value < 2 ^ 64
cell_with-lt cell place value inside =
    let within = inside_cell cell place inside in
    let long : length (stored (bytes_of 8 cell) (place_in_cell place) value) ≡ 8 = length-stored (bytes_of 8 cell) (place_in_cell place) value within ∙ length-bytes_of 8 cell in
    let small = number_of-lt (stored (bytes_of 8 cell) (place_in_cell place) value) (stored-byte (bytes_of 8 cell) (place_in_cell place) value within (cell_byte cell)) in
    let P : ℕ → Type 0 = λ l. cell_with cell place value < 256 ^ l in subst P long small

-- a place holds what was put there
pub value_in_cell-cell_with : (cell : ℕ) (place : Place) (value : ℕ) → place.addr % 8 + size_bytes place.size ≤ 8
    → value < 256 ^ size_bytes place.size → value_in_cell (cell_with cell place value) place ≡ value
value_in_cell-cell_with cell place value inside fits =
    rw (bytes_of-cell_with cell place value inside)
    (value_at-stored (bytes_of 8 cell) (place_in_cell place) value (inside_cell cell place inside) fits)

-- a place that shares no byte with it holds what it held
pub value_in_cell-cell_with_apart : (cell : ℕ) (place other : Place) (value : ℕ)
    → place.addr % 8 + size_bytes place.size ≤ 8 → other.addr % 8 + size_bytes other.size ≤ 8
    → (place.addr % 8 + size_bytes place.size ≤ other.addr % 8) ⊎ (other.addr % 8 + size_bytes other.size ≤ place.addr % 8)
    → value_in_cell (cell_with cell place value) other ≡ value_in_cell cell other
value_in_cell-cell_with_apart cell place other value inside other_inside apart =
    rw (bytes_of-cell_with cell place value inside)
    (value_at-stored_apart (bytes_of 8 cell) (place_in_cell place) (place_in_cell other) value (inside_cell cell place inside) (inside_cell cell other other_inside) apart)

-- ---- shifts and masks

-- what a shift and a mask take is the value of the place
pub taken-is : (cell : ℕ) (place : Place) (shift mask : ℕ) → is_aligned place ≡ true
    → shift ≡ 8 * (place.addr % 8) → mask ≡ 2 ^ (8 * size_bytes place.size) - 1
    → bit_and (cell / 2 ^ shift) mask ≡ value_in_cell cell place
taken-is cell place shift mask aligned s m =
    rw (s, m, and_mask (cell / 2 ^ (8 * (place.addr % 8))) (8 * size_bytes place.size), pow-bytes (place.addr % 8), pow-bytes (size_bytes place.size))
    (sym (value_in_cell-is cell place (is_aligned-in_cell place aligned)))

-- a value shifted to its place loses no bit
pub shifted-lt : (place : Place) (value shift : ℕ) → is_aligned place ≡ true → value < 256 ^ size_bytes place.size
    → shift ≡ 8 * (place.addr % 8) → value * 2 ^ shift < 2 ^ 64
shifted-lt place value shift aligned fits s =
    let inside = is_aligned-in_cell place aligned in
    let P = 256 ^ (place.addr % 8) in
    let M = 256 ^ size_bytes place.size in
    let room : P * M ≤ 2 ^ 64 = rw (← pow-add 256 (place.addr % 8) (size_bytes place.size)) (pow-le-pow_right {n = 256} (omega arith) {i = place.addr % 8 + size_bytes place.size} {j = 8} inside) in
    let most : P * suc value ≤ P * M = mul-le-mul_left {m = suc value} {n = M} P (omega arith) in
    rw (s, pow-bytes (place.addr % 8)) (omega (arith, pow256-pos (place.addr % 8)))

-- the place's bits out and others in: no more is taken than there is, the sum fits, and it is the cell with the place set
pub put-is : (cell : ℕ) (place : Place) (value old shift : ℕ) → is_aligned place ≡ true → value < 256 ^ size_bytes place.size
    → cell < 2 ^ 64 → old ≡ value_in_cell cell place → shift ≡ 8 * (place.addr % 8)
    → (old * 2 ^ shift % 2 ^ 64 ≤ cell) × (cell - old * 2 ^ shift % 2 ^ 64 + value * 2 ^ shift % 2 ^ 64 ≡ cell_with cell place value)
put-is cell place value old shift aligned fits small o s =
    let inside = is_aligned-in_cell place aligned in
    let old_fits : old < 256 ^ size_bytes place.size = rw o (value_in_cell-lt cell place inside) in
    let same = cell_with-is cell place value inside fits small in
    let P = 256 ^ (place.addr % 8) in
    let M = 256 ^ size_bytes place.size in
    let low : cell % P + P * (cell / P) ≡ cell = mod-add-div cell P in
    let high : cell / P % M + M * (cell / P / M) ≡ cell / P = mod-add-div (cell / P) M in
    let scaled : P * (cell / P % M + M * (cell / P / M)) ≡ P * (cell / P) = ap (λ (x : ℕ). P * x) high in
    let is : value_in_cell cell place ≡ cell / P % M = value_in_cell-is cell place inside in
    let there : P * value_in_cell cell place ≡ P * (cell / P % M) = ap (λ (x : ℕ). P * x) is in
    let width : 2 ^ shift ≡ P = rw s (pow-bytes (place.addr % 8)) in
    let one : old * 2 ^ shift % 2 ^ 64 ≡ P * value_in_cell cell place = mod-eq_of_lt (shifted-lt place old shift aligned old_fits s) ∙ rw (width, o) (omega arith) in
    let two : value * 2 ^ shift % 2 ^ 64 ≡ P * value = mod-eq_of_lt (shifted-lt place value shift aligned fits s) ∙ rw width (omega arith) in
    rw (one, two) (omega arith, omega arith)
