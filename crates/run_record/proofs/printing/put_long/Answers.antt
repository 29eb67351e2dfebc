use Rattle.std.proofs.Common.{◌≤◌, ap, arith, length, length-append}
use Rattle.std.specs.Fmt.{decimal}
use Rattle.number_text.proofs.Lengths.{long_decimal}
use Rattle.run_record.proofs.printing.put_long.Goals as goal

pub returns-clause-most : goal.returns-clause-most
returns-clause-most c =
    let digits : length (decimal c.args.number) ≤ 20 = long_decimal c.args.number c.ranges.number.fits in
    omega (arith, digits, ap length c.write_decimal.ensures, length-append c.args.line.now (decimal c.args.number))

pub write_decimal-requires : goal.write_decimal-requires
write_decimal-requires c =
    let digits = long_decimal c.args.number c.ranges.number.fits in
    record { room = omega (arith, digits, c.requires.room) }
