use Rattle.hst_memory.proofs.Betweens.{between-joined}
use Rattle.hst_memory.proofs.calls.HstMemorySharedMemory.join.Goals as goal

pub invariant_of-pass : goal.invariant_of-pass
invariant_of-pass c = record {
  between = between-joined c.args.pass.now.seat.me c.args.other.seat.me c.join_numbers.new.seat.me c.args.pass.now.has c.args.other.has c.merge_marks-pass.result
      c.args.pass.now.number c.args.other.number c.args.pass.now.reserved c.args.other.reserved c.args.pass.now.between c.args.other.between c.join_numbers.ensures.both c.merge_marks-pass.ensures;
}
