-- The segments before the index stand in memory.
use Rattle.std.proofs.Common.{◌≡◌, ℕ, length, slice_index, take}
use Rattle.elf32.specs.Image.{byte_at}
use Rattle.elf32.proofs.segments.memory.Given as goal

abbrev pub invariant-loop-segment : goal.invariant-loop-segment
invariant-loop-segment l = record {
  all : length l.memory.items ≡ l.mem;
  byte : (addr : ℕ) → slice_index l.memory.items addr ≡ byte_at l.file (take l.segment-index l.segments) addr;
}
