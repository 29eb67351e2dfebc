use Rattle.std.proofs.Common.{◌≡◌, ◌||◌, Bool, length-set, ap, sym, ◌∙◌, arith}
use Rattle.shared_memory.specs.Passes.{marked}
use Rattle.shared_memory.proofs.HeldMarks.{merge-more, merge-rest, merged-all}
use Rattle.shared_memory.proofs.numbers.merge_marks.Goals as goal
use Rattle.shared_memory.proofs.numbers.merge_marks.Goals.{then-has-t, else-has-t}

pub loop-t-preserved : goal.loop-t-preserved
loop-t-preserved c =
    let one = c.args.one.now in
    let other = c.args.other.now in
    let has = c.loop-t.has in
    let t = c.loop-t.t in
    let long = c.loop-t.invariant.long in
    let b = c.if-has-t.has in
    let is : b ≡ (marked has t || marked other t) = elim c.if-has-t.branch [
      | then-has-t w ↦ w.has-is ∙ w.if-has-t.true ∙ sym (ap (λ (x : Bool). x || marked other t) w.if-has-t.true)
      | else-has-t w ↦ w.has-is ∙ sym (ap (λ (x : Bool). x || marked other t) w.if-has-t.false)
    ] in
    record {
      long = length-set has t b ∙ long;
      merged = merge-more one other has t (omega arith) c.loop-t.invariant.merged c.loop-t.invariant.rest b is;
      rest = merge-rest one other has t c.loop-t.invariant.rest b;
    }

pub returns : goal.returns
returns c = merged-all c.args.one.now c.args.other.now c.loop-t.has c.loop-t.t c.told-one c.told-other c.loop-t-test.false c.loop-t.invariant.merged c.loop-t.invariant.rest
