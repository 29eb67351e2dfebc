-- Memory as a list of bytes, and the numbers that stand in it (DDI 0406C A3.1, A3.3: little-endian).
use Rattle.std.specs.Prelude.{ℕ, ◌+◌, ◌*◌, ◌/◌, ◌%◌, ◌^◌, ◌==◌, Bool, List, [], ◌∷◌, ◌++◌, take, drop, zero, suc}
use Rattle.llsc_base.specs.declared.access.Size.{Size}
use Rattle.llsc_base.specs.declared.access.Size.TheVariants.{B1, B2, B4, B8}
use Rattle.llsc_base.specs.declared.access.Place.{Place}

-- how many bytes a size has
abbrev pub size_bytes : Size → ℕ
size_bytes B1 = 1
size_bytes B2 = 2
size_bytes B4 = 4
size_bytes B8 = 8

-- a place is aligned where its address is a multiple of its size
abbrev pub is_aligned : Place → Bool
is_aligned place = place.addr % size_bytes place.size == 0

-- the cell of a place: the aligned eight bytes in which it lies, counted from address 0
unfoldable pub cell_of : Place → ℕ
cell_of place = place.addr / 8

-- the row of a place: the granule of memory on which a monitor marks it (DDI 0406C A3.4.3), which has 8 * 2 ^ granule bytes
unfoldable pub row_of : (granule : ℕ) → Place → ℕ
row_of granule place = place.addr / 2 ^ (3 + granule)

-- the class of a row, where rows are dealt out to so many classes
unfoldable pub class_of : ℕ → ℕ → ℕ
class_of classes row = row % classes

-- the number that bytes spell, the least significant first
unfoldable pub number_of : List ℕ → ℕ
number_of [] = 0
number_of (byte ∷ bytes) = byte + 256 * number_of bytes

-- the bytes that spell a number, the least significant first, so many of them
unfoldable pub bytes_of : ℕ → ℕ → List ℕ
bytes_of zero value = []
bytes_of (suc count) value = value % 256 ∷ bytes_of count (value / 256)

-- the bytes of a place
abbrev pub place_bytes : List ℕ → Place → List ℕ
place_bytes memory place = take (size_bytes place.size) (drop place.addr memory)

-- the value of a place is the number that its bytes spell
abbrev pub value_at : List ℕ → Place → ℕ
value_at memory place = number_of (place_bytes memory place)

-- memory with the bytes of a place set to a value, and all others kept
abbrev pub stored : List ℕ → Place → ℕ → List ℕ
stored memory place value = take place.addr memory
    ++ bytes_of (size_bytes place.size) value
    ++ drop (place.addr + size_bytes place.size) memory
