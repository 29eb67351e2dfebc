use Rattle.std.proofs.Common.{arith, sym, ◌∙◌}
use Rattle.number_text.proofs.HexTexts.{eight_small}
use Rattle.number_text.proofs.hexadecimal.word_number.Goals as goal

pub overflow_cast-result : goal.overflow_cast-result
overflow_cast-result c = omega (arith, c.value.ensures, eight_small c.args.word.now (sym c.are_lower_digits.ensures ∙ c.if-not-are_lower_digits.false))
