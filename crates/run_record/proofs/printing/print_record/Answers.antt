use Rattle.run_record.proofs.LineLoops.{printed}
use Rattle.run_record.proofs.printing.print_record.Goals as goal

pub returns : goal.returns
returns c =
    printed c.args.run.now c.as_slice-accesses.result.now c.loop-access.text.items c.loop-access.access-index c.as_slice-accesses.ensures c.loop-access-test.false c.loop-access.invariant
