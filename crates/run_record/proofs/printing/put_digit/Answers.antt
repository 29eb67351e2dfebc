use Rattle.std.proofs.Common.{◌≤◌, ap, arith, length, length-append}
use Rattle.std.specs.Fmt.{decimal}
use Rattle.std.proofs.lemmas.Fmt.{length-decimal-le}
use Rattle.run_record.proofs.printing.put_digit.Goals as goal

pub returns-clause-most : goal.returns-clause-most
returns-clause-most c =
    let digits : length (decimal c.from.result) ≤ 1 = length-decimal-le 1 c.from.result (omega arith) (omega arith) (omega (arith, c.from.ensures, c.requires.digit)) in
    omega (arith, digits, ap length c.write_decimal.ensures, length-append c.args.line.now (decimal c.from.result))

pub write_decimal-requires : goal.write_decimal-requires
write_decimal-requires c =
    let digits : length (decimal c.from.result) ≤ 1 = length-decimal-le 1 c.from.result (omega arith) (omega arith) (omega (arith, c.from.ensures, c.requires.digit)) in
    record { room = omega (arith, digits, c.requires.room) }
