-- Only proofs and inner contracts need these words beside those of `specs/Image`.
use Rattle.std.specs.Prelude.{ℕ, ◌≤◌, ◌+◌}
use Rattle.elf32.specs.declared.headers.ProgramHeader.{ProgramHeader}
use Rattle.elf32.specs.Headers.{end_of}

-- a segment has no more bytes in the file than in memory, they lie in a file of so many bytes, and its memory in so much
pub record IsPlaced (count : ℕ) (mem : ℕ) (segment : ProgramHeader) : Type 0 where
  pub short : segment.file_size ≤ segment.memory_size
  pub stored : segment.offset + segment.file_size ≤ count
  pub inside : end_of segment ≤ mem
