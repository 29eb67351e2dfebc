use Rattle.a32_compute.proofs.Lists.{count_is}
use Rattle.a32_compute.proofs.registers.count_of.Goals as goal

pub returns-clause-count : goal.returns-clause-count
returns-clause-count c = count_is c.args.list c.ranges.list.fits
