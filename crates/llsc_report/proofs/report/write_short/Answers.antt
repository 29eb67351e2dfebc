use Rattle.std.proofs.Common.{◌∙◌, ap, arith, length, length-append}
use Rattle.std.specs.Fmt.{decimal}
use Rattle.number_text.proofs.Lengths.{short_decimal}
use Rattle.llsc_report.proofs.report.write_short.Goals as goal

pub write_decimal-requires : goal.write_decimal-requires
write_decimal-requires c =
    let digits = short_decimal c.from.result (omega (arith, c.from.ensures, c.ranges.number.fits)) in
    let name = ap length c.write_text.ensures ∙ length-append c.args.line.now c.as_bytes.result.now in
    record { room = omega (arith, digits, name, ap length c.as_bytes.ensures.value, c.requires.room) }

pub returns-clause-most : goal.returns-clause-most
returns-clause-most c =
    let digits = short_decimal c.from.result (omega (arith, c.from.ensures, c.ranges.number.fits)) in
    let name = ap length c.write_text.ensures ∙ length-append c.args.line.now c.as_bytes.result.now in
    let number = ap length c.write_decimal.ensures ∙ length-append c.write_text.new.line (decimal c.from.result) in
    omega (arith, digits, name, number, ap length c.as_bytes.ensures.value)
