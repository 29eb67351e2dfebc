-- The segments among the headers before the index have been kept.
use Rattle.std.proofs.Common.{◌≡◌, ◌≤◌, ◌++◌, length, filter, drop}
use Rattle.elf32.specs.Headers.{is_segment}
use Rattle.elf32.proofs.table.segments_among.Given as goal

abbrev pub invariant-loop-header : goal.invariant-loop-header
invariant-loop-header l = record {
  kept : l.segments.items ++ filter is_segment (drop l.header-index l.headers) ≡ filter is_segment l.headers;
  count : length l.segments.items ≤ l.header-index;
}
