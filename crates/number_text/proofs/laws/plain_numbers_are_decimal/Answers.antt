use Rattle.number_text.proofs.PlainTexts.{plain_text, text_plain}
use Rattle.number_text.proofs.laws.plain_numbers_are_decimal.Goals as goal

pub returns-clause-text : goal.returns-clause-text
returns-clause-text c = plain_text c.args.word.now

pub returns-clause-number : goal.returns-clause-number
returns-clause-number c = text_plain
