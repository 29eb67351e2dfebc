-- What stands behind the blanks, and the parts, are the same from where the loop has come.
use Rattle.std.proofs.Common.{◌≡◌, length}
use Rattle.a32_forms.specs.Text.{after_blanks, parts}
use Rattle.a32_forms.proofs.text.after_blanks.Given as goal

abbrev pub invariant-loop-byte : goal.invariant-loop-byte
invariant-loop-byte l = (after_blanks l.rest ≡ after_blanks l.text) × (parts l.rest ≡ parts l.text)

abbrev pub decreases-loop-byte : goal.decreases-loop-byte
decreases-loop-byte l = length l.rest
