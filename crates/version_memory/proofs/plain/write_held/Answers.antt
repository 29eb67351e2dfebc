use Rattle.std.proofs.Common.{ap}
use Rattle.version_rule.specs.declared.hands.Hand.{Hand}
use Rattle.version_rule.specs.Kept.{origin_of}
use Rattle.version_memory.proofs.Whole.{held, held-stamped}
use Rattle.version_memory.proofs.plain.write_held.Goals as goal

pub change_cell-requires-clause-holding : goal.change_cell-requires-clause-holding
change_cell-requires-clause-holding g c = ap (λ (h : Hand). h.doing) c.take_cell-cell.ensures.goes.doing_is

pub release-requires-clause-written : goal.release-requires-clause-written
release-requires-clause-written g c = ap (λ (h : Hand). h.doing) c.change_cell.ensures.decides.goes.doing_is

pub returns-clause-goes : goal.returns-clause-goes
returns-clause-goes g c = held (origin_of c.args.shared.now.key) c.args.target.place c.args.seat.now.me c.take_cell-cell.new.seat.me c.change_cell.new.seat.me c.release.new.seat.me
    c.args.target.value c.args.version c.take_cell-cell.result c.args.ex c.take_cell-cell.ensures.goes c.change_cell.ensures.decides c.release.ensures.goes

pub returns-clause-stamped : goal.returns-clause-stamped
returns-clause-stamped g c = held-stamped (origin_of c.args.shared.now.key) c.args.target.place c.args.seat.now.me c.take_cell-cell.new.seat.me c.change_cell.new.seat.me c.release.new.seat.me
    c.args.target.value c.args.version c.take_cell-cell.result c.args.ex c.take_cell-cell.ensures.goes c.change_cell.ensures.decides c.release.ensures.goes
