-- What was written and what stands on the page are the lines so far.
use Rattle.llsc_texts.specs.Disassembly.{lines_of}
use Rattle.llsc_texts.specs.Paging.{Holds}
use Rattle.llsc_texts.proofs.dis.write_lines.Given as goal

abbrev pub invariant-loop-i : goal.invariant-loop-i
invariant-loop-i g l = Holds g.H.Host l.initial.host l.host l.page (lines_of l.image l.i)
