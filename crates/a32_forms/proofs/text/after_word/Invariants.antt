-- What stands behind the word is the same from where the loop has come.
use Rattle.std.proofs.Common.{◌≡◌, length}
use Rattle.a32_forms.specs.Text.{after_word}
use Rattle.a32_forms.proofs.text.after_word.Given as goal

abbrev pub invariant-loop-byte : goal.invariant-loop-byte
invariant-loop-byte l = after_word l.rest ≡ after_word l.text

abbrev pub decreases-loop-byte : goal.decreases-loop-byte
decreases-loop-byte l = length l.rest
