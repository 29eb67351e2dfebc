use Rattle.std.proofs.Common.{sym}
use Rattle.std.proofs.lemmas.Result.{err_from_is_err_and}
use Rattle.run_record.specs.Reading.{accesses_from}
use Rattle.run_record.proofs.LineLoops.{read_all, read_full, read_here, read_later, read_left}
use Rattle.run_record.proofs.reading.accesses_from.Goals as goal

pub returns-in_err-access-clause-fault : goal.returns-in_err-access-clause-fault
returns-in_err-access-clause-fault c =
    let p = err_from_is_err_and c.from_residual.result c.from_residual.ensures.1 in
    rw (p.1, p.2) (read_here c.args.threads c.args.count c.loop-line.line c.loop-line.rest.now c.loop-line.accesses.items c.in_err-access.field-0.0
    (accesses_from c.args.threads c.args.count 2 c.args.bytes.now) c.loop-line-test.true c.in_err-access.ensures c.loop-line.invariant)

pub returns-in_default-clause-fault : goal.returns-in_default-clause-fault
returns-in_default-clause-fault c =
    read_full c.args.threads c.args.count c.loop-line.line c.loop-line.rest.now c.loop-line.accesses.items (c.in_ok-access.access, c.in_ok-access.after.now) c.fault_of_lines.result
    (accesses_from c.args.threads c.args.count 2 c.args.bytes.now) c.loop-line-test.true c.in_ok-access.ensures c.loop-line.invariant c.fault_of_lines.ensures

pub loop-line-preserved : goal.loop-line-preserved
loop-line-preserved c =
    read_later c.args.threads c.args.count c.loop-line.line c.loop-line.rest.now c.loop-line.accesses.items c.push.new.self.items (c.in_ok-access.access, c.in_ok-access.after.now)
    (accesses_from c.args.threads c.args.count 2 c.args.bytes.now) c.loop-line-test.true c.in_ok-access.ensures c.in-Ok.ensures.items c.loop-line.invariant

pub returns-then-not-is_empty-clause-fault : goal.returns-then-not-is_empty-clause-fault
returns-then-not-is_empty-clause-fault c =
    read_left c.args.threads c.args.count c.loop-line.line c.loop-line.rest.now c.loop-line.accesses.items
    (accesses_from c.args.threads c.args.count 2 c.args.bytes.now) c.loop-line-test.false c.loop-line.auto.line-end (sym c.if-not-is_empty.ensures) c.loop-line.invariant

pub returns-clause-read : goal.returns-clause-read
returns-clause-read c =
    read_all c.args.threads c.args.count c.loop-line.line c.loop-line.rest.now c.loop-line.accesses.items
    (accesses_from c.args.threads c.args.count 2 c.args.bytes.now) c.loop-line-test.false (sym c.if-not-is_empty.ensures) c.loop-line.invariant
