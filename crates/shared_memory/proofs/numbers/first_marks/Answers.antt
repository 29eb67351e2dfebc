use Rattle.std.proofs.Common.{true, length-set, nat_lt, refl, ap, ◌∙◌, arith}
use Rattle.shared_memory.proofs.FirstWords.{mark-more, no-marks}
use Rattle.shared_memory.proofs.numbers.first_marks.Goals as goal

pub loop-t-preserved : goal.loop-t-preserved
loop-t-preserved c =
    let long = c.loop-t.invariant.long in
    record {
      long = length-set c.loop-t.has c.loop-t.t true ∙ long;
      marks = mark-more c.loop-t.has c.loop-t.t (omega arith) c.loop-t.invariant.marks;
    }

pub loop-t-init : goal.loop-t-init
loop-t-init c = record { long = refl; marks = no-marks 16 }

pub returns : goal.returns
returns c t = c.loop-t.invariant.marks t ∙ ap (nat_lt t) (omega arith)
