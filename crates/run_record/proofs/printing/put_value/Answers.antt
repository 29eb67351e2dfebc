use Rattle.std.proofs.Common.{ap, arith, length, length-append}
use Rattle.number_text.specs.Hexadecimal.{long_text}
use Rattle.number_text.proofs.HexTexts.{long_lower}
use Rattle.run_record.proofs.printing.put_value.Goals as goal

pub returns-clause-length : goal.returns-clause-length
returns-clause-length c =
    let digits = (long_lower c.args.value c.ranges.value.fits).many in
    omega (arith, digits, ap length c.write_long.ensures, length-append c.args.line.now (long_text c.args.value))
