use Rattle.std.proofs.Common.{ℕ, ◌+◌, ap, sym, ◌∙◌}
use Rattle.hst_memory.specs.declared.hands.Hand.{Hand}
use Rattle.hst_memory.specs.Kept.{origin_of}
use Rattle.hst_memory.proofs.Whole.{stored}
use Rattle.hst_memory.proofs.plain.store_cell.Goals as goal

pub set_tag-requires-clause-inside : goal.set_tag-requires-clause-inside
set_tag-requires-clause-inside g c = ap (λ (h : Hand). h.doing) c.enter_shared.ensures.goes.doing_is

pub set_tag-requires-clause-name : goal.set_tag-requires-clause-name
set_tag-requires-clause-name g c = c.requires.name ∙ ap (λ (n : ℕ). n + 1) (sym c.enter_shared.ensures.goes.lead)

pub change-requires-clause-begun : goal.change-requires-clause-begun
change-requires-clause-begun g c = ap (λ (h : Hand). h.doing) c.set_tag.ensures.goes.doing_is

pub leave-requires-clause-written : goal.leave-requires-clause-written
leave-requires-clause-written g c = ap (λ (h : Hand). h.doing) c.change.ensures.goes.doing_is

pub returns-clause-goes : goal.returns-clause-goes
returns-clause-goes g c = stored (origin_of c.args.shared.now.key) c.args.target.place c.args.seat.now.me c.enter_shared.new.seat.me c.set_tag.new.seat.me c.change.new.seat.me c.leave.new.seat.me
    c.args.target.value c.enter_shared.ensures.goes c.set_tag.ensures.goes c.change.ensures.goes c.leave.ensures.goes
