use Rattle.std.proofs.Common.{[], ◌∷◌, length, ◌∙◌, ap, arith, length-append}
use Rattle.number_text.specs.Hexadecimal.{word_text}
use Rattle.number_text.proofs.Lengths.{word_length}
use Rattle.llsc_texts.proofs.dis.push_word.Goals as goal

pub push-requires : goal.push-requires
push-requires c =
    let digits = ap length c.write_word.ensures ∙ length-append c.args.line.now (word_text c.args.word) in
    omega (arith, digits, word_length c.args.word, c.requires)

pub returns-clause-longer : goal.returns-clause-longer
returns-clause-longer c =
    let digits = ap length c.write_word.ensures ∙ length-append c.args.line.now (word_text c.args.word) in
    let space = ap length c.push.ensures ∙ length-append c.write_word.new.line (32 ∷ []) in
    omega (arith, digits, space, word_length c.args.word)
