-- The image of an ELF file: what its segments make of memory (System V gABI, Program Header: Segment Types, PT_LOAD).
use Rattle.std.specs.Prelude.{ℕ, ◌+◌, ◌-◌, ◌&&◌, nat_le, nat_lt, if◌then◌else◌, Bool, List, [], ◌∷◌, map, slice_index}
use Rattle.llsc_base.specs.Sizes.{Numbers}
use Rattle.llsc_base.specs.Flat.{values_below}
use Rattle.llsc_base.specs.Images.{Program}
use Rattle.llsc_base.specs.declared.images.Span.{Span}
use Rattle.elf32.specs.declared.headers.ProgramHeader.{ProgramHeader}
use Rattle.elf32.specs.Headers.{segments_of, runs, writes, end_of, entry_address}

-- a segment has a byte of the file for an address
abbrev pub stores : ProgramHeader → ℕ → Bool
stores segment addr = nat_le segment.address addr && nat_lt addr (segment.address + segment.file_size)

-- the byte of memory at an address: that of the segment which has one for it, and 0 where none has
abbrev pub byte_at : List ℕ → List ProgramHeader → ℕ → ℕ
byte_at file [] addr = 0
byte_at file (segment ∷ segments) addr =
    if stores segment addr
    then slice_index file (segment.offset + (addr - segment.address))
    else byte_at file segments addr

-- a segment in memory
abbrev pub span_of : ProgramHeader → Span
span_of segment = record { start = segment.address; end = end_of segment; run = runs segment; write = writes segment }

-- the image of a file on a machine of this size
unfoldable pub image_of : List ℕ → Numbers → Program
image_of file size = record {
  bytes = values_below size.mem (byte_at file (segments_of file));
  spans = map span_of (segments_of file);
  entry = entry_address file;
}
