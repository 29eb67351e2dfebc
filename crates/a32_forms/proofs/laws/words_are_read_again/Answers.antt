use Rattle.a32_forms.proofs.NamesAgain.{register_again, shift_again}
use Rattle.a32_forms.proofs.NumbersAgain.{decimal_again, word_again}
use Rattle.a32_forms.proofs.ListsAgain.{list_text_again}
use Rattle.a32_forms.proofs.laws.words_are_read_again.Goals as goal

pub returns-clause-register : goal.returns-clause-register
returns-clause-register c = register_again c.args.number

pub returns-clause-shift : goal.returns-clause-shift
returns-clause-shift c = shift_again c.args.number

pub returns-clause-decimal : goal.returns-clause-decimal
returns-clause-decimal c = decimal_again c.args.number

pub returns-clause-hexadecimal : goal.returns-clause-hexadecimal
returns-clause-hexadecimal c = word_again c.args.number

pub returns-clause-list : goal.returns-clause-list
returns-clause-list c = list_text_again c.args.number
