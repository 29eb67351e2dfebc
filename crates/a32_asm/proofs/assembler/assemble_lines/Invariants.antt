use Rattle.a32_asm.specs.inner.Seen.{size_left, layout_seen}
use Rattle.a32_asm.proofs.AddedLines.{GoesOn}
use Rattle.a32_asm.proofs.assembler.assemble_lines.Given as goal

abbrev pub invariant-loop-left : goal.invariant-loop-left
invariant-loop-left l = GoesOn (layout_seen l.layout) l.text l.draft.words.items l.draft.bytes.items l.spot l.number l.left

abbrev pub decreases-loop-left : goal.decreases-loop-left
decreases-loop-left l = size_left l.left
