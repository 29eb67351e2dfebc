use Rattle.std.proofs.Common.{◌+◌, ◌*◌, drop, ap, ◌∙◌, arith}
use Rattle.number_text.proofs.Horner.{value_behind, value_behind_zero}
use Rattle.number_text.proofs.HexTexts.{value_next, value_end}
use Rattle.number_text.proofs.hexadecimal.value.Goals as goal

pub loop-digit-init : goal.loop-digit-init
loop-digit-init c = value_behind_zero 16 c.args.word.now

pub overflow_mul-number : goal.overflow_mul-number
overflow_mul-number c =
    let next = value_next c.args.word.now c.loop-digit.digit-index c.loop-digit.number c.loop-digit-test.true c.requires.most c.requires.digits c.loop-digit.invariant in
    omega (arith, next.1)

pub overflow_add-number : goal.overflow_add-number
overflow_add-number c =
    let next = value_next c.args.word.now c.loop-digit.digit-index c.loop-digit.number c.loop-digit-test.true c.requires.most c.requires.digits c.loop-digit.invariant in
    omega (arith, next.1, c.digit_value.ensures.value)

pub loop-digit-preserved : goal.loop-digit-preserved
loop-digit-preserved c =
    let next = value_next c.args.word.now c.loop-digit.digit-index c.loop-digit.number c.loop-digit-test.true c.requires.most c.requires.digits c.loop-digit.invariant in
    ap (λ d. value_behind 16 (c.loop-digit.number * 16 + d) (drop (c.loop-digit.digit-index + 1) c.args.word.now)) c.digit_value.ensures.value ∙ next.0

pub returns : goal.returns
returns c = value_end c.args.word.now c.loop-digit.digit-index c.loop-digit.number c.loop-digit-test.false c.loop-digit.invariant
