-- The digits that are left give, behind the number so far, what all of them give, but for what is too great.
use Rattle.std.proofs.Common.{◌≡◌, ◌≤◌, ◌^◌, drop}
use Rattle.number_text.specs.Digits.{value_in}
use Rattle.number_text.proofs.Horner.{value_behind}
use Rattle.a32_forms.specs.Numbers.{capped}
use Rattle.a32_forms.proofs.numbers.capped_value.Given as goal

abbrev pub invariant-loop-digit : goal.invariant-loop-digit
invariant-loop-digit l =
    (capped (value_behind l.base l.value (drop l.digit-index l.digits)) ≡ capped (value_in l.base l.digits)) × (l.value ≤ 2 ^ 32)
