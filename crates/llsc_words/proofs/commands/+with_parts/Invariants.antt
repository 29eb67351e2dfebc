-- The parts behind the first are fewer.
use Rattle.std.proofs.Common.{length}
use Rattle.llsc_words.proofs.commands.+with_parts.Given as goal

abbrev pub decreases-with_parts : goal.decreases-with_parts
decreases-with_parts l = length l.parts.now
