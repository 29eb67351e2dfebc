use Rattle.std.proofs.Common.{lit≤, sym, ap, ◌∙◌, ◌≡◌, drop, ◌+◌, ◌*◌, get_or}
use Rattle.number_text.proofs.Horner.{value_behind}
use Rattle.number_text.specs.Digits.{digit_value}
use Rattle.a32_forms.specs.Numbers.{capped}
use Rattle.a32_forms.proofs.Capped.{capped_none, capped_more, capped_all}
use Rattle.a32_forms.proofs.numbers.capped_value.Goals as goal

pub loop-digit-init : goal.loop-digit-init
loop-digit-init c = (capped_none c.args.base c.args.digits.now, lit≤ tt)

pub loop-digit-preserved : goal.loop-digit-preserved
loop-digit-preserved c =
    let i = c.loop-digit.digit-index in
    let next : c.capped-value.result ≡ capped (c.loop-digit.value * c.args.base + digit_value (get_or c.args.digits.now i 0)) =
    c.capped-value.ensures.value ∙ ap (λ d. capped (c.loop-digit.value * c.args.base + d)) c.digit_value.ensures.value in (
      ap (λ n. capped (value_behind c.args.base n (drop (i + 1) c.args.digits.now))) next
          ∙ capped_more c.args.base c.loop-digit.value c.args.digits.now i c.loop-digit-test.true c.requires.low
          ∙ c.loop-digit.invariant.0,
      c.capped-value.ensures.bound,
    )

pub returns-clause-value : goal.returns-clause-value
returns-clause-value c =
    sym (capped_all c.args.base c.loop-digit.value c.args.digits.now c.loop-digit.digit-index c.loop-digit-test.false c.loop-digit.invariant.1)
    ∙ c.loop-digit.invariant.0
