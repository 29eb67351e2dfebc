-- Memory as cells: eight aligned bytes as one number, the first byte the least significant (DDI 0406C A3.3: little-endian).
use Rattle.std.specs.Prelude.{ℕ, ◌*◌, ◌%◌, List, take, drop}
use Rattle.std.specs.List.{flat_map}
use Rattle.llsc_base.specs.Memory.{bytes_of, number_of, stored, value_at}
use Rattle.llsc_base.specs.declared.access.Place.{Place}

-- where a place lies among the eight bytes of its cell
abbrev pub place_in_cell : Place → Place
place_in_cell place = record { addr = place.addr % 8; size = place.size }

-- the value of a place in the cell in which it lies
abbrev pub value_in_cell : ℕ → Place → ℕ
value_in_cell cell place = value_at (bytes_of 8 cell) (place_in_cell place)

-- the cell with the bytes of a place set to a value, and all others kept
abbrev pub cell_with : ℕ → Place → ℕ → ℕ
cell_with cell place value = number_of (stored (bytes_of 8 cell) (place_in_cell place) value)

-- the cell of this index in memory
abbrev pub cell_at : List ℕ → ℕ → ℕ
cell_at memory index = number_of (take 8 (drop (8 * index) memory))

-- the memory that cells make, from address 0 up
unfoldable pub bytes_of_cells : List ℕ → List ℕ
bytes_of_cells cells = flat_map (bytes_of 8) cells
