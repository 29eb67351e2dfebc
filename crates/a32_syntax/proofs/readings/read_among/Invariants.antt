-- The operations that are left give what all of them give.
use Rattle.std.proofs.Common.{◌≡◌, length}
use Rattle.a32_syntax.specs.Mnemonics.{read_among}
use Rattle.a32_syntax.proofs.readings.read_among.Given as goal

abbrev pub invariant-loop-operation : goal.invariant-loop-operation
invariant-loop-operation l = read_among l.rest l.word ≡ read_among l.operations l.word

abbrev pub decreases-loop-operation : goal.decreases-loop-operation
decreases-loop-operation l = length l.rest
