-- An assembled program: its limits, where its parts stand in memory, and its image.
use Rattle.std.specs.Prelude.{ℕ, ◌≤◌, ◌+◌, ◌-◌, ◌*◌, ◌/◌, ◌==◌, ◌&&◌, nat_le, nat_lt, if◌then◌else◌, true, false, List, [], ◌∷◌, length, slice_index}
use Rattle.std.specs.List.{flat_map}
use Rattle.llsc_base.specs.Limits.{code_start}
use Rattle.llsc_base.specs.Memory.{bytes_of}
use Rattle.llsc_base.specs.Sizes.{Numbers}
use Rattle.llsc_base.specs.Flat.{values_below}
use Rattle.llsc_base.specs.Images.{Program}
use Rattle.llsc_base.specs.declared.images.Span.{Span}
use Rattle.elf32.specs.declared.units.Unit.{Unit}

-- at most 65,536 words of code, and 1,048,576 bytes of data and space together
abbrev pub most_words : ℕ
most_words = 65536

abbrev pub most_data : ℕ
most_data = 1048576

pub record IsWithin (unit : Unit) : Type 0 where
  pub code : length unit.words ≤ most_words
  pub bytes : length unit.bytes + unit.space ≤ most_data

-- the data begins at the least multiple of 4096 behind so many words of code
abbrev pub data_start : ℕ → ℕ
data_start words = (code_start + 4 * words + 4095) / 4096 * 4096

abbrev pub code_end : Unit → ℕ
code_end unit = code_start + 4 * length unit.words

-- the bytes of the data, the space behind them counted too
abbrev pub data_size : Unit → ℕ
data_size unit = length unit.bytes + unit.space

abbrev pub data_of : Unit → ℕ
data_of unit = data_start (length unit.words)

-- where a program ends: behind its data and space, or behind its code where it has neither
abbrev pub end_of : Unit → ℕ
end_of unit = if data_size unit == 0 then code_end unit else data_of unit + data_size unit

-- the words of the code, each from its low byte on
abbrev pub code_bytes : List ℕ → List ℕ
code_bytes words = flat_map (bytes_of 4) words

-- the byte of memory at an address: the code's or the data's, and 0 elsewhere, in the space too
abbrev pub unit_byte : Unit → ℕ → ℕ
unit_byte unit addr =
    if nat_le code_start addr && nat_lt addr (code_end unit) then slice_index (code_bytes unit.words) (addr - code_start) else
    if nat_le (data_of unit) addr && nat_lt addr (data_of unit + length unit.bytes) then slice_index unit.bytes (addr - data_of unit) else
    0

-- the code is run and not written; data and space, where there are any, are written and not run
abbrev pub code_span : Unit → Span
code_span unit = record { start = code_start; end = code_end unit; run = true; write = false }

abbrev pub data_spans : Unit → List Span
data_spans unit =
    if data_size unit == 0 then []
    else record { start = data_of unit; end = data_of unit + data_size unit; run = false; write = true } ∷ []

-- the image of a program, which begins at its first word
abbrev pub unit_image : Unit → Numbers → Program
unit_image unit size = record {
  bytes = values_below size.mem (unit_byte unit);
  spans = code_span unit ∷ data_spans unit;
  entry = code_start;
}
