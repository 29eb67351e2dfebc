use Rattle.std.proofs.Common.{◌∙◌, ap, arith, length, length-append}
use Rattle.number_text.specs.Hexadecimal.{word_text}
use Rattle.number_text.proofs.Lengths.{word_length}
use Rattle.llsc_report.proofs.report.write_address.Goals as goal

pub returns-clause-most : goal.returns-clause-most
returns-clause-most c =
    let name = ap length c.write_text.ensures ∙ length-append c.args.line.now c.as_bytes.result.now in
    let digits = ap length c.write_word.ensures ∙ length-append c.write_text.new.line (word_text c.args.addr) in
    omega (arith, name, digits, word_length c.args.addr, ap length c.as_bytes.ensures.value)
