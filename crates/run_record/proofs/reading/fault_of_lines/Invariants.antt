-- the first fault of the lines that are left is that of all
use Rattle.std.proofs.Common.{◌≡◌, ◌+◌, ◌-◌}
use Rattle.run_record.specs.Reading.{accesses_from}
use Rattle.run_record.specs.inner.Seen.{fault_or_memory}
use Rattle.run_record.proofs.reading.fault_of_lines.Given as goal

abbrev pub invariant-loop-line : goal.invariant-loop-line
invariant-loop-line l =
    fault_or_memory (accesses_from l.threads (l.count - l.line) (l.number + l.line) l.rest) ≡ fault_or_memory (accesses_from l.threads l.count l.number l.bytes)
