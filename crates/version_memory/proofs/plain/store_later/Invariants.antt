use Rattle.std.proofs.Common.{◌≡◌}
use Rattle.shared_memory.proofs.Waits.{Waits}
use Rattle.version_memory.specs.inner.Passes.{IsReady}
use Rattle.version_memory.proofs.plain.store_later.Given as goal

abbrev pub invariant-loop : goal.invariant-loop
invariant-loop g l = record {
  waits : Waits l.fn.seat.me l.seat.me;
  ready : IsReady l.shared.key l.shared.table_id l.seat.table_id l.seat.me;
  home : l.seat.table_id ≡ l.fn.seat.table_id;
}
