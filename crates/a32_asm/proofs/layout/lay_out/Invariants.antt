use Rattle.a32_asm.specs.inner.Seen.{size_left}
use Rattle.a32_asm.proofs.LaidLines.{Holds}
use Rattle.a32_asm.proofs.layout.lay_out.Given as goal

abbrev pub invariant-loop-left : goal.invariant-loop-left
invariant-loop-left l = Holds l.spot l.places.items l.text l.left

abbrev pub decreases-loop-left : goal.decreases-loop-left
decreases-loop-left l = size_left l.left
