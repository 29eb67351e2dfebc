use Rattle.std.proofs.Common.{◌+◌, ap, sym, ◌∙◌, arith}
use Rattle.llsc_report.specs.Summary.{counter_of, total_of}
use Rattle.llsc_report.proofs.Counted.{no_total, total_more}
use Rattle.llsc_report.proofs.summary.total.Goals as goal

pub loop-i-init : goal.loop-i-init
loop-i-init c = record { sum = sym (no_total (counter_of c.args.rows.now)); most = omega arith }

pub loop-i-preserved : goal.loop-i-preserved
loop-i-preserved c =
    let held = counter_of c.args.rows.now in
    record {
      sum = ap (λ n. n + c.counter-total.result) c.loop-i.invariant.sum ∙ ap (λ n. total_of held c.loop-i.i + n) c.counter-total.ensures.value ∙ sym (total_more held c.loop-i.i);
      most = omega (arith, c.loop-i.invariant.most, c.counter-total.ensures.fits);
    }
