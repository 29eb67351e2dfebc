-- The digits that are left give, behind the number so far, what all of them give.
use Rattle.std.proofs.Common.{◌≡◌, drop}
use Rattle.number_text.specs.Digits.{value_in}
use Rattle.number_text.proofs.Horner.{value_behind}
use Rattle.number_text.proofs.hexadecimal.value.Given as goal

abbrev pub invariant-loop-digit : goal.invariant-loop-digit
invariant-loop-digit l = value_behind 16 l.number (drop l.digit-index l.word) ≡ value_in 16 l.word
