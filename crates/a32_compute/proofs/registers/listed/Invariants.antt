-- So many registers have been passed, and those from here up are left.
use Rattle.std.proofs.Common.{◌≤◌}
use Rattle.a32_compute.specs.Lists.{AreLeft}
use Rattle.a32_compute.proofs.registers.listed.Given as goal

abbrev pub invariant-loop-r : goal.invariant-loop-r
invariant-loop-r l = AreLeft l.list l.r l.passed × (l.passed ≤ l.number)
