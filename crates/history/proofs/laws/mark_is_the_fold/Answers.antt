use Rattle.history.specs.Monitor.{at_rest_by}
use Rattle.history.proofs.Appends.{IsArmLegal-from_accesses_of, monitor_after-accesses_of}
use Rattle.history.proofs.Marks.{marked_row-standing}
use Rattle.history.proofs.laws.mark_is_the_fold.Goals as goal

pub returns : goal.returns
returns c = λ size legal.
    let start = at_rest_by size.granule c.args.bytes.now c.args.threads in
    rw (monitor_after-accesses_of start c.args.history.now)
    (marked_row-standing size c.args.bytes.now c.args.threads c.args.thread c.args.history.now (IsArmLegal-from_accesses_of start c.args.history.now legal))
