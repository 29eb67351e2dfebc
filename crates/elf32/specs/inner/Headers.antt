-- Only proofs and inner contracts need these words beside those of `specs/Headers`.
use Rattle.std.specs.Prelude.{ℕ, ◌≤◌, length, ◌+◌, ◌*◌, List}
use Rattle.elf32.specs.Headers.{header_size, entry_size, table_offset, table_count}

-- a file has its header, and in it at most 64 program headers in a table that ends within the file
pub record HasTable (file : List ℕ) : Type 0 where
  pub header : header_size ≤ length file
  pub count : table_count file ≤ 64
  pub inside : table_offset file + entry_size * table_count file ≤ length file
