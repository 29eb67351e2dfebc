use Rattle.std.proofs.Common.{lit<, sym, ◌∙◌}
use Rattle.number_text.proofs.Horner.{value_behind_zero}
use Rattle.number_text.proofs.PlainWords.{digit_next, digit_wrong, digits_end}
use Rattle.number_text.proofs.plain.plain_number.Goals as goal

pub loop-digit-init : goal.loop-digit-init
loop-digit-init c = (value_behind_zero 10 c.args.word.now, lit< tt)

pub loop-digit-preserved : goal.loop-digit-preserved
loop-digit-preserved c = digit_next c.args.word.now c.loop-digit.digit-index c.loop-digit.number c.in_ok-number.number c.loop-digit-test.true c.in_ok-number.ensures c.loop-digit.invariant.0

pub returns-in_err-number : goal.returns-in_err-number
returns-in_err-number c =
    c.from_residual.ensures
    ∙ digit_wrong c.args.word.now c.loop-digit.digit-index c.loop-digit.number c.loop-digit-test.true c.in_err-number.ensures c.loop-digit.invariant.0

pub returns : goal.returns
returns c = digits_end c.args.word.now c.loop-digit.digit-index c.loop-digit.number c.loop-digit-test.false (sym c.if-not-is_plain.ensures) c.loop-digit.invariant.1 c.loop-digit.invariant.0
