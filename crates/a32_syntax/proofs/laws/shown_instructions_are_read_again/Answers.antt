use Rattle.a32_syntax.proofs.ShownAgain.{formed_again, mnemonic_again, shown_front, shown_name, shown_rest}
use Rattle.a32_syntax.proofs.ShownCodes.{text_shown}
use Rattle.a32_syntax.proofs.laws.shown_instructions_are_read_again.Goals as goal

pub returns-clause-bytes : goal.returns-clause-bytes
returns-clause-bytes c = text_shown

pub returns-clause-name : goal.returns-clause-name
returns-clause-name c = shown_name

pub returns-clause-front : goal.returns-clause-front
returns-clause-front c = shown_front

pub returns-clause-rest : goal.returns-clause-rest
returns-clause-rest c = shown_rest

pub returns-clause-mnemonic : goal.returns-clause-mnemonic
returns-clause-mnemonic c = mnemonic_again

pub returns-clause-operands : goal.returns-clause-operands
returns-clause-operands c = formed_again
