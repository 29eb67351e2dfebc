use Rattle.number_text.proofs.HexTexts.{long_read, read_long}
use Rattle.number_text.proofs.laws.longs_are_sixteen_digits.Goals as goal

pub returns-clause-text : goal.returns-clause-text
returns-clause-text c = long_read c.args.word.now

pub returns-clause-number : goal.returns-clause-number
returns-clause-number c = read_long
