-- the accesses so far and those of the lines that are left are those of all
use Rattle.std.proofs.Common.{◌≡◌, ◌+◌, ◌-◌}
use Rattle.run_record.specs.Reading.{accesses_from}
use Rattle.run_record.proofs.RecordTexts.{joined}
use Rattle.run_record.proofs.reading.accesses_from.Given as goal

abbrev pub invariant-loop-line : goal.invariant-loop-line
invariant-loop-line l = joined l.accesses.items (accesses_from l.threads (l.count - l.line) (l.line + 2) l.rest) ≡ accesses_from l.threads l.count 2 l.bytes
