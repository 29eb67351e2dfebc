use Rattle.row_bytes.proofs.Cells.{taken-is}
use Rattle.row_bytes.proofs.take.Goals as goal

pub returns-clause-value : goal.returns-clause-value
returns-clause-value c = taken-is c.args.cell c.args.place c.shift.result c.mask.result c.requires.aligned c.shift.ensures c.mask.ensures
