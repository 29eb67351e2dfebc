use Rattle.std.proofs.Common.{sym}
use Rattle.run_record.specs.Reading.{accesses_from}
use Rattle.run_record.specs.inner.Seen.{fault_or_memory}
use Rattle.run_record.proofs.LineLoops.{fault_here, fault_later, fault_left, fault_none}
use Rattle.run_record.proofs.reading.fault_of_lines.Goals as goal

pub returns-in-Err : goal.returns-in-Err
returns-in-Err c =
    fault_here c.args.threads c.args.count c.args.number c.loop-line.line c.loop-line.rest.now c.in-Err.fault
    (fault_or_memory (accesses_from c.args.threads c.args.count c.args.number c.args.bytes.now)) c.loop-line-test.true c.in-Err.ensures c.loop-line.invariant

pub loop-line-preserved : goal.loop-line-preserved
loop-line-preserved c =
    fault_later c.args.threads c.args.count c.args.number c.loop-line.line c.loop-line.rest.now (c.in-Ok.field-0-0, c.in-Ok.after.now)
    (fault_or_memory (accesses_from c.args.threads c.args.count c.args.number c.args.bytes.now)) c.loop-line-test.true c.in-Ok.ensures c.loop-line.invariant

pub returns-then-not-is_empty : goal.returns-then-not-is_empty
returns-then-not-is_empty c =
    fault_left c.args.threads c.args.count c.args.number c.loop-line.line c.loop-line.rest.now
    (fault_or_memory (accesses_from c.args.threads c.args.count c.args.number c.args.bytes.now)) c.loop-line-test.false c.loop-line.auto.line-end
    (sym c.if-not-is_empty.ensures) c.loop-line.invariant

pub returns : goal.returns
returns c =
    fault_none c.args.threads c.args.count c.args.number c.loop-line.line c.loop-line.rest.now
    (fault_or_memory (accesses_from c.args.threads c.args.count c.args.number c.args.bytes.now)) c.loop-line-test.false
    (sym c.if-not-is_empty.ensures) c.loop-line.invariant
