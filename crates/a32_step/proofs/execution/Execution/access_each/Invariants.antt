-- The registers below have had their replies, and those that are left come next.
use Rattle.std.proofs.Common.{◌≡◌, ◌+◌, ◌*◌, ◌≤◌, ◌%◌, ◌^◌, length}
use Rattle.a32_instr.specs.State.{State}
use Rattle.a32_instr.specs.Block.{block_at}
use Rattle.a32_compute.specs.Lists.{AreLeft}
use Rattle.a32_step.specs.inner.Acting.{IsGiven}
use Rattle.a32_step.proofs.execution.Execution.access_each.Given as goal

abbrev pub invariant-loop-r : goal.invariant-loop-r
invariant-loop-r g l = record {
  left : AreLeft l.fn.list l.r (length l.self.replies);
  at : l.addr ≡ (l.fn.lowest + 4 * length l.self.replies) % 2 ^ 32;
  given : (back : State) → IsGiven g.S.Source.replies (λ had. block_at l.fn.image l.fn.load l.fn.lowest l.fn.list back had l.fn.self.state) l.fn.self.replies l.fn.source l.self.replies l.source;
  state : l.self ≡ record l.fn.self { replies = l.self.replies };
  mem : g.S.Source.mem l.source ≡ g.S.Source.mem l.fn.source;
  counted : g.S.Source.counted l.source ≤ g.S.Source.counted l.fn.source + length l.self.replies;
}
