use Rattle.std.proofs.Common.{◌≡◌, ap, refl, ◌∙◌}
use Rattle.shared_memory.specs.Passes.{IsSettled, marked}
use Rattle.shared_memory.specs.declared.views.View.{View}
use Rattle.shared_memory.proofs.Marks.{marked-merged}
use Rattle.version_rule.specs.declared.hands.Hand.{Hand}
use Rattle.version_memory.proofs.Betweens.{between-joined}
use Rattle.version_memory.proofs.Counted.{counted-joined}
use Rattle.version_memory.proofs.calls.VersionMemorySharedMemory.join.Goals as goal

settled-seen : (old new : View Hand) → IsSettled old new → new.seen ≡ old.seen
settled-seen old new settled = ap (λ (v : View Hand). v.seen) settled.view

pub invariant_of-pass : goal.invariant_of-pass
invariant_of-pass c = record {
  between = between-joined c.args.pass.now.seat.me c.args.other.seat.me c.join_numbers.new.seat.me c.args.pass.now.has c.args.other.has c.merge_marks-pass.result
      c.args.pass.now.number c.args.other.number c.args.pass.now.reserved c.args.other.reserved c.args.pass.now.between c.args.other.between c.join_numbers.ensures.both c.merge_marks-pass.ensures;
  few = c.args.pass.now.few;
  counted = counted-joined c.args.pass.now.seat.me c.args.other.seat.me c.join_numbers.new.seat.me c.args.pass.now.has c.args.pass.now.number c.args.pass.now.reserved c.args.pass.now.started
      c.args.pass.now.between c.args.pass.now.counted c.join_numbers.ensures.both;
}

pub returns-clause-numbers : goal.returns-clause-numbers
returns-clause-numbers c i u =
    (ap (λ (v : View Hand). marked v.numbers u) c.join_numbers.ensures.both.settled.view ∙ marked-merged c.args.pass.now.seat.me.0.numbers c.args.other.seat.me.0.numbers u) i

pub returns-clause-fronts : goal.returns-clause-fronts
returns-clause-fronts c = let both = c.join_numbers.ensures.both.settled in rw (settled-seen _ _ both) ((both.left refl).0, (both.right refl).0)

pub returns-clause-mine : goal.returns-clause-mine
returns-clause-mine c = let both = c.join_numbers.ensures.both.settled in rw (settled-seen _ _ both) (both.left refl).1

pub returns-clause-yours : goal.returns-clause-yours
returns-clause-yours c = let both = c.join_numbers.ensures.both.settled in rw (settled-seen _ _ both) (both.right refl).1
