use Rattle.std.proofs.Common.{ap, arith, length, length-append}
use Rattle.std.specs.Fmt.{decimal}
use Rattle.number_text.proofs.Lengths.{short_decimal}
use Rattle.run_record.proofs.printing.put_short.Goals as goal

pub returns-clause-most : goal.returns-clause-most
returns-clause-most c =
    let digits = short_decimal c.from.result (omega (arith, c.from.ensures, c.ranges.number.fits)) in
    omega (arith, digits, ap length c.write_decimal.ensures, length-append c.args.line.now (decimal c.from.result))

pub write_decimal-requires : goal.write_decimal-requires
write_decimal-requires c =
    let digits = short_decimal c.from.result (omega (arith, c.from.ensures, c.ranges.number.fits)) in
    record { room = omega (arith, digits, c.requires.room) }
