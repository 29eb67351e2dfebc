-- A guest program as it stands in memory before its first instruction.
use Rattle.std.specs.Prelude.{◌≡◌, ℕ, zero, suc, ◌+◌, ◌<◌, ◌≤◌, ◌%◌, ◌^◌, ◌&&◌, not, nat_le, nat_lt, max, min, if◌then◌else◌, Bool, true, false, Option, Some, None, List, length, AllPairs, All, slice_get}
use Rattle.std.specs.List.{list_any}
use Rattle.std.specs.Option.{option_map_or}
use Rattle.llsc_base.specs.Memory.{size_bytes, is_aligned, value_at}
use Rattle.llsc_base.specs.declared.access.Size.TheVariants.{B4}
use Rattle.llsc_base.specs.declared.access.Place.{Place}
use Rattle.llsc_base.specs.declared.access.Bar.{Bar}
use Rattle.llsc_base.specs.declared.access.Bar.TheVariants.{Alignment, Outside, ReadOnly}
use Rattle.llsc_base.specs.declared.access.BarredWord.{BarredWord}
use Rattle.llsc_base.specs.declared.images.Span.{Span}

-- memory at the start, the segments that lie in it, and the address of the first instruction
pub record Program : Type 0 where
  pub bytes : List ℕ
  pub spans : List Span
  pub entry : ℕ

-- bytes, spans and an entry as one program
abbrev pub program_of : List ℕ → List Span → ℕ → Program
program_of bytes spans entry = record { bytes = bytes; spans = spans; entry = entry }

-- a span may be run and holds four bytes at an address
abbrev pub holds_word : Span → ℕ → Bool
holds_word span addr = span.run && nat_le span.start addr && nat_le (addr + 4) span.end

-- four bytes at an address lie in one span that may be run
abbrev pub runs_at : List Span → ℕ → Bool
runs_at spans addr = list_any (λ span. holds_word span addr) spans

-- the span of this index, if there is one, may be run and holds four bytes at an address
abbrev pub serves : List Span → ℕ → ℕ → Bool
serves spans at addr = option_map_or (λ span. holds_word span addr) (slice_get spans at) false

-- the instruction word at an address, where one may be run there
abbrev pub word_at : Program → ℕ → Option ℕ
word_at program addr =
    if runs_at program.spans addr
    then Some (value_at program.bytes (record { addr = addr; size = B4 }))
    else None

-- some byte from one address up to another lies in a span that isn't written
abbrev pub touches_read_only : List Span → ℕ → ℕ → Bool
touches_read_only spans from to =
    list_any (λ span. not span.write && nat_lt (max span.start from) (min span.end to)) spans

-- what stands against an access of a place, the first that does
abbrev pub bar_of : Program → Place → Bool → Option Bar
bar_of program place store =
    if not (is_aligned place) then Some Alignment else
    if nat_lt (length program.bytes) (place.addr + size_bytes place.size) then Some Outside else
    if store && touches_read_only program.spans place.addr (place.addr + size_bytes place.size) then Some ReadOnly else
    None

-- the place of a word at an address, which counts modulo 2 to the 32
abbrev pub word_place : ℕ → Place
word_place addr = record { addr = addr % 2 ^ 32; size = B4 }

-- a word that is barred, or else one of the later ones
abbrev pub or_later : ℕ → Option Bar → Option BarredWord → Option BarredWord
or_later addr (Some bar) later = Some (record { addr = addr; bar = bar })
or_later addr None later = later

-- the first word that is barred of so many, one after another from an address up
unfoldable pub first_barred : Program → Bool → ℕ → ℕ → Option BarredWord
first_barred program store addr zero = None
first_barred program store addr (suc count) =
    or_later (word_place addr).addr (bar_of program (word_place addr) store) (first_barred program store (addr + 4) count)

-- a span is not empty, lies within so many bytes, and none is both run and written
pub record IsSpan (count : ℕ) (span : Span) : Type 0 where
  pub filled : span.start < span.end
  pub inside : span.end ≤ count
  pub apart : span.run ≡ true → span.write ≡ false

-- two spans share no address
abbrev pub AreApart : Span → Span → Type 0
AreApart one other = max one.start other.start < min one.end other.end → ⊥

-- what holds of every program: its entry is a word's address, each span is sound, and no two share an address
pub record IsProgram (program : Program) : Type 0 where
  pub aligned : program.entry % 4 ≡ 0
  pub spans : All (IsSpan (length program.bytes)) program.spans
  pub apart : AllPairs AreApart program.spans
