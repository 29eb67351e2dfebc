use Rattle.std.proofs.Common.{ℕ, ◌+◌, ap, sym, ◌∙◌}
use Rattle.row_bytes.specs.Cell.{value_in_cell}
use Rattle.hst_memory.specs.declared.hands.Hand.{Hand}
use Rattle.hst_memory.specs.Kept.{origin_of}
use Rattle.hst_memory.proofs.Whole.{linked}
use Rattle.hst_memory.proofs.alone.load_ex_cell.Goals as goal

pub watch-requires-clause-alone : goal.watch-requires-clause-alone
watch-requires-clause-alone g c = ap (λ (h : Hand). h.doing) c.enter_alone.ensures.goes.doing_is

pub watch-requires-clause-name : goal.watch-requires-clause-name
watch-requires-clause-name g c = c.requires.name ∙ ap (λ (n : ℕ). n + 1) (sym c.enter_alone.ensures.goes.lead)

pub read_ex-cell-requires-clause-watching : goal.read_ex-cell-requires-clause-watching
read_ex-cell-requires-clause-watching g c = ap (λ (h : Hand). h.doing) c.watch.ensures.goes.doing_is

pub leave_alone-requires-clause-done : goal.leave_alone-requires-clause-done
leave_alone-requires-clause-done g c = ap (λ (h : Hand). h.doing) c.read_ex-cell.ensures.goes.doing_is

pub returns-clause-goes : goal.returns-clause-goes
returns-clause-goes g c = linked (origin_of c.args.shared.now.key) c.args.target.place c.args.seat.now.me c.enter_alone.new.seat.me c.watch.new.seat.me c.read_ex-cell.new.seat.me c.leave_alone.new.seat.me
    (value_in_cell c.read_ex-cell.result c.args.target.place) c.enter_alone.ensures.goes c.watch.ensures.goes c.read_ex-cell.ensures.goes c.leave_alone.ensures.goes
