use Rattle.history.proofs.Kept.{marks_keep}
use Rattle.history.proofs.laws.marks_keep_their_rows.Goals as goal

pub returns : goal.returns
returns c = marks_keep c.args.granule c.args.bytes.now c.args.threads c.args.thread c.args.row c.args.accesses.now c.requires.legal c.requires.marked
