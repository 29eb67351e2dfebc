use Rattle.a32_syntax.proofs.WordsRead.{word_is_text}
use Rattle.a32_syntax.proofs.laws.words_are_their_mnemonics.Goals as goal

pub returns : goal.returns
returns c = word_is_text
