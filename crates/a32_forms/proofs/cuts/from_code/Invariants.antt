-- The text from the byte on is the same from where the loop has come.
use Rattle.std.proofs.Common.{◌≡◌, length}
use Rattle.a32_forms.specs.Cuts.{from_code}
use Rattle.a32_forms.proofs.cuts.from_code.Given as goal

abbrev pub invariant-loop-byte : goal.invariant-loop-byte
invariant-loop-byte l = from_code l.code l.rest ≡ from_code l.code l.text

abbrev pub decreases-loop-byte : goal.decreases-loop-byte
decreases-loop-byte l = length l.rest
