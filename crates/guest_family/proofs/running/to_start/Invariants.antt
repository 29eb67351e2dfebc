use Rattle.std.proofs.Common.{◌≡◌, ◌≤◌, ◌-◌}
use Rattle.guest_family.proofs.GoingOn.{HasGoneOn}
use Rattle.guest_family.proofs.running.to_start.Given as goal

abbrev pub invariant-calls : goal.invariant-calls
invariant-calls g l = record {
  program : l.code.program ≡ l.fn.code.program;
  within : l.part.steps ≤ l.budget;
  gone : HasGoneOn g.M.SharedMemory.home g.M.SharedMemory.numbers g.M.SharedMemory.seen (g.M.SharedMemory.id l.mem) (g.M.SharedMemory.origin l.mem) l.fn.code.program l.budget l.fn.part l.part;
}

-- each call is a step
abbrev pub decreases-calls : goal.decreases-calls
decreases-calls g l = l.budget - l.part.steps
