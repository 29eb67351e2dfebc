use Rattle.std.proofs.Common.{ap}
use Rattle.version_rule.specs.declared.hands.Hand.{Hand}
use Rattle.version_rule.specs.Kept.{origin_of}
use Rattle.version_memory.proofs.Whole.{found-not, linked}
use Rattle.version_memory.proofs.stamped.try_load_ex.Goals as goal

pub find_cell-cell-requires-clause-first : goal.find_cell-cell-requires-clause-first
find_cell-cell-requires-clause-first g c = ap (λ (h : Hand). h.doing) (c.find_version-version.ensures.found c.if-version-ne0.false).doing_is

pub find_again_ex-tag-requires-clause-second : goal.find_again_ex-tag-requires-clause-second
find_again_ex-tag-requires-clause-second g c = ap (λ (h : Hand). h.doing) c.find_cell-cell.ensures.goes.doing_is

pub returns-then-tag-version-clause-not_yet : goal.returns-then-tag-version-clause-not_yet
returns-then-tag-version-clause-not_yet g c is = found-not (origin_of c.args.shared.now.key) c.args.target.place c.args.seat.now.me c.find_version-version.new.seat.me c.find_cell-cell.new.seat.me c.find_again_ex-tag.new.seat.me
    c.find_version-version.result c.find_cell-cell.result c.requires.rest (c.find_version-version.ensures.found c.if-version-ne0.false) c.find_cell-cell.ensures.goes (c.find_again_ex-tag.ensures.other c.if-tag-version.true)

pub returns-clause-loaded : goal.returns-clause-loaded
returns-clause-loaded g c = linked (origin_of c.args.shared.now.key) c.args.target.place c.args.seat.now.me c.find_version-version.new.seat.me c.find_cell-cell.new.seat.me c.find_again_ex-tag.new.seat.me
    c.find_version-version.result c.find_cell-cell.result (c.find_version-version.ensures.found c.if-version-ne0.false) c.find_cell-cell.ensures.goes (c.find_again_ex-tag.ensures.same c.if-tag-version.false)
