-- what a line has while a text is added to it
use Rattle.std.proofs.Common.{◌≡◌, ◌++◌, take}
use Rattle.number_text.proofs.write.write_text.Given as goal

abbrev pub invariant-loop-byte : goal.invariant-loop-byte
invariant-loop-byte l = l.line ≡ l.fn.line ++ take l.byte-index l.text
