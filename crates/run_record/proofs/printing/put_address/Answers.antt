use Rattle.std.proofs.Common.{ap, arith, length, length-append}
use Rattle.number_text.specs.Hexadecimal.{word_text}
use Rattle.number_text.proofs.Lengths.{word_length}
use Rattle.run_record.proofs.printing.put_address.Goals as goal

pub returns-clause-length : goal.returns-clause-length
returns-clause-length c =
    omega (arith, word_length c.args.addr, ap length c.write_word.ensures, length-append c.args.line.now (word_text c.args.addr))
