use Rattle.std.proofs.Common.{arith, rules}
use Rattle.guest_thread.specs.declared.ends.GuestEnd.{GuestEnd}
use Rattle.llsc_report.proofs.Sums.{one_counts, one_fits}
use Rattle.llsc_report.proofs.report.counts_of.Goals as goal

pub overflow_add-all : goal.overflow_add-all
overflow_add-all c =
    let small = one_fits (λ (end : GuestEnd). end.reads) c.args.ends.now c.loop-end.end-index c.end-item.result c.loop-end.all.reads (search rules) c.end-item.is c.loop-end.invariant.reads c.requires.reads in
    omega (arith, small)

pub overflow_add-all-in-loop-end : goal.overflow_add-all-in-loop-end
overflow_add-all-in-loop-end c =
    let small = one_fits (λ (end : GuestEnd). end.writes) c.args.ends.now c.loop-end.end-index c.end-item.result c.loop-end.all.writes (search rules) c.end-item.is c.loop-end.invariant.writes c.requires.writes in
    omega (arith, small)

pub overflow_add-all-in-loop-end-2 : goal.overflow_add-all-in-loop-end-2
overflow_add-all-in-loop-end-2 c =
    let small = one_fits (λ (end : GuestEnd). end.fails) c.args.ends.now c.loop-end.end-index c.end-item.result c.loop-end.all.fails (search rules) c.end-item.is c.loop-end.invariant.fails c.requires.fails in
    omega (arith, small)

pub loop-end-preserved : goal.loop-end-preserved
loop-end-preserved c = record {
  reads = one_counts (λ (end : GuestEnd). end.reads) c.args.ends.now c.loop-end.end-index c.end-item.result c.loop-end.all.reads (search rules) c.end-item.is c.loop-end.invariant.reads;
  writes = one_counts (λ (end : GuestEnd). end.writes) c.args.ends.now c.loop-end.end-index c.end-item.result c.loop-end.all.writes (search rules) c.end-item.is c.loop-end.invariant.writes;
  fails = one_counts (λ (end : GuestEnd). end.fails) c.args.ends.now c.loop-end.end-index c.end-item.result c.loop-end.all.fails (search rules) c.end-item.is c.loop-end.invariant.fails;
}
