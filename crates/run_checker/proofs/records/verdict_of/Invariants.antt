use Rattle.std.proofs.Common.{◌≡◌, ◌≤◌, ◌+◌, [], List, All, length}
use Rattle.llsc_base.specs.Sizes.{Numbers}
use Rattle.run_record.specs.Limits.{IsAccess}
use Rattle.run_checker.specs.inner.Positions.{AreBrought, MayGoOn}
use Rattle.run_checker.specs.declared.sightings.Sighting.{Sighting}
use Rattle.run_checker.proofs.Judging.{IsUnder}
use Rattle.run_checker.proofs.Seen.{IsSeen}
use Rattle.run_checker.proofs.records.verdict_of.Given as goal

-- the threads may go on, and have made the accesses so far
abbrev pub invariant-loop-access : goal.invariant-loop-access
invariant-loop-access g l = record {
  ready : MayGoOn g.C.Core.machine (length l.image.bytes) l.budget l.checker;
  marks : length l.checker.memory.marks ≡ length l.fn.checker.memory.marks;
  few : l.index + length l.rest ≤ 1000000;
  known : All (IsAccess (length l.fn.checker.memory.marks)) l.rest;
  seen : g.W.Watch.told l.initial.watch [] → (sightings : List Sighting)
      × ((size : Numbers) → AreBrought g.C.Core.set g.C.Core.machine l.image size l.budget [] l.fn.checker → IsSeen g.C.Core.set l.image size l.budget g.C.Core.machine l.accesses l.checker l.rest sightings)
      × g.W.Watch.told l.watch sightings;
  under : (size : Numbers) → AreBrought g.C.Core.set g.C.Core.machine l.image size l.budget [] l.fn.checker → IsUnder g.C.Core.set g.C.Core.machine l.image size l.budget l.accesses l.checker l.index l.rest;
}

abbrev pub decreases-loop-access : goal.decreases-loop-access
decreases-loop-access g l = length l.rest
