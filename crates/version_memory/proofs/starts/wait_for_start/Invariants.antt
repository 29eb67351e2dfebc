use Rattle.std.proofs.Common.{◌≡◌, ◌<◌}
use Rattle.shared_memory.proofs.Waits.{Waits}
use Rattle.version_memory.specs.inner.Passes.{IsAwaiting}
use Rattle.version_memory.proofs.starts.wait_for_start.Given as goal

abbrev pub invariant-loop : goal.invariant-loop
invariant-loop g l = record {
  waits : Waits l.fn.seat.me l.seat.me;
  awaiting : IsAwaiting l.shared.key l.shared.table_id l.seat.table_id l.seat.me;
  below : l.seat.me.0.lead < l.shared.key.size.threads;
  home : l.seat.table_id ≡ l.fn.seat.table_id;
}
