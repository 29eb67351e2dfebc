-- Words for several calls behind each other. This project's own.
use Rattle.std.specs.Prelude.{◌≤◌, ◌⊎◌, ◌+◌, ◌++◌, ℕ, List, take, drop}
use Rattle.llsc_base.specs.Memory.{bytes_of}

-- bytes in which a value stands at an address, as so many bytes, low byte first, and all others are as they were
abbrev pub with_value : (bytes : List ℕ) (addr width value : ℕ) → List ℕ
with_value bytes addr width value = take addr bytes ++ bytes_of width value ++ drop (addr + width) bytes

-- two places share no byte
abbrev pub AreApart : (addr width other_addr other_width : ℕ) → Type 0
AreApart addr width other_addr other_width = (addr + width ≤ other_addr) ⊎ (other_addr + other_width ≤ addr)
