use Rattle.std.proofs.Common.{◌≡◌, ◌++◌, take}
use Rattle.elf32.specs.Written.{halves}
use Rattle.elf32.proofs.writer.push_halves.Given as goal

abbrev pub invariant-loop-half : goal.invariant-loop-half
invariant-loop-half l = l.file.items ≡ l.fn.file.items ++ halves (take l.half-index l.numbers)
