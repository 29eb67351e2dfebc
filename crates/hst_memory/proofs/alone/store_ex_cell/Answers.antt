use Rattle.std.proofs.Common.{ℕ, ◌+◌, ap, sym, ◌∙◌}
use Rattle.hst_memory.specs.declared.hands.Doing.TheVariants.{Alone}
use Rattle.hst_memory.specs.declared.hands.Hand.{Hand}
use Rattle.hst_memory.specs.inner.Hands.{hand}
use Rattle.hst_memory.specs.Kept.{origin_of}
use Rattle.hst_memory.proofs.Exactly.{exact-lost, exact-won, goes-lost, goes-won}
use Rattle.shared_memory.proofs.Sequences.{goes-then}
use Rattle.hst_memory.proofs.alone.store_ex_cell.Goals as goal

pub test_tag-tag-requires-clause-alone : goal.test_tag-tag-requires-clause-alone
test_tag-tag-requires-clause-alone g c = c.enter_alone.ensures.goes.doing_is ∙ ap (λ (h : Hand). hand Alone h.reserve) c.requires.reserved

pub test_tag-tag-requires-clause-name : goal.test_tag-tag-requires-clause-name
test_tag-tag-requires-clause-name g c = c.requires.name ∙ ap (λ (n : ℕ). n + 1) (sym c.enter_alone.ensures.goes.lead)

pub leave_alone-requires-clause-done : goal.leave_alone-requires-clause-done
leave_alone-requires-clause-done g c = ap (λ (h : Hand). h.doing) (c.test_tag-tag.ensures.lost c.if-tag-name.true).goes.doing_is

pub returns-then-tag-name-clause-failed : goal.returns-then-tag-name-clause-failed
returns-then-tag-name-clause-failed g c = goes-lost (origin_of c.args.shared.now.key) c.args.target.place c.args.target.value
    c.args.seat.now.me c.enter_alone.new.seat.me c.test_tag-tag.new.seat.me c.leave_alone.new.seat.me
    c.enter_alone.ensures.goes (c.test_tag-tag.ensures.lost c.if-tag-name.true) c.leave_alone.ensures.goes

pub returns-then-tag-name-clause-exact : goal.returns-then-tag-name-clause-exact
returns-then-tag-name-clause-exact g c = exact-lost (origin_of c.args.shared.now.key) c.args.target.place c.args.target.value
    c.args.seat.now.me c.enter_alone.new.seat.me c.test_tag-tag.new.seat.me c.leave_alone.new.seat.me _ _ _
    c.enter_alone.ensures.goes (c.test_tag-tag.ensures.lost c.if-tag-name.true) c.leave_alone.ensures.goes

pub change_alone-requires-clause-begun : goal.change_alone-requires-clause-begun
change_alone-requires-clause-begun g c = (c.test_tag-tag.ensures.won c.if-tag-name.false).goes.doing_is

pub leave_written-requires-clause-written : goal.leave_written-requires-clause-written
leave_written-requires-clause-written g c = c.change_alone.ensures.goes.doing_is

pub returns-clause-done : goal.returns-clause-done
returns-clause-done g c = goes-won (origin_of c.args.shared.now.key) c.args.target.place c.args.target.value
    c.args.seat.now.me c.enter_alone.new.seat.me c.test_tag-tag.new.seat.me c.change_alone.new.seat.me c.leave_written.new.seat.me _
    c.enter_alone.ensures.goes (c.test_tag-tag.ensures.won c.if-tag-name.false) c.change_alone.ensures.goes c.leave_written.ensures.goes

pub returns-clause-exact : goal.returns-clause-exact
returns-clause-exact g c =
    let rest = goes-then _ _ _ _ _ _ _ _ c.change_alone.ensures.goes c.leave_written.ensures.goes in
    exact-won (origin_of c.args.shared.now.key) c.args.target.place c.args.target.value
    c.args.seat.now.me c.enter_alone.new.seat.me c.test_tag-tag.new.seat.me c.leave_written.new.seat.me _ _ _
    c.enter_alone.ensures.goes (c.test_tag-tag.ensures.won c.if-tag-name.false) rest
