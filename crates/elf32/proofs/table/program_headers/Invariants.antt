-- The headers before the index have been read.
use Rattle.std.proofs.Common.{◌≡◌, length}
use Rattle.elf32.specs.Headers.{headers_from}
use Rattle.elf32.proofs.table.program_headers.Given as goal

abbrev pub invariant-loop-i : goal.invariant-loop-i
invariant-loop-i l = record {
  read : l.headers.items ≡ headers_from l.bytes l.table l.i;
  count : length l.headers.items ≡ l.i;
}
