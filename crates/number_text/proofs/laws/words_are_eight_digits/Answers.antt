use Rattle.number_text.proofs.HexTexts.{word_read, read_word}
use Rattle.number_text.proofs.laws.words_are_eight_digits.Goals as goal

pub returns-clause-text : goal.returns-clause-text
returns-clause-text c = word_read c.args.word.now

pub returns-clause-number : goal.returns-clause-number
returns-clause-number c = read_word
