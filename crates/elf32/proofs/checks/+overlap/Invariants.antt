-- The segments behind the first are fewer.
use Rattle.std.proofs.Common.{length}
use Rattle.elf32.proofs.checks.+overlap.Given as goal

abbrev pub decreases-overlap : goal.decreases-overlap
decreases-overlap l = length l.segments.now
