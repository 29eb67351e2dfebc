use Rattle.std.proofs.Common.{◌≡◌, ◌+◌, ◌/◌, ◌%◌, [], ◌∷◌, ◌++◌, length, refl, ap, append_assoc, arith, length-append}
use Rattle.std.specs.Fmt.{decimal}
use Rattle.std.proofs.lemmas.Fmt.{decimal_step}
use Rattle.number_text.proofs.Decimals.{length_step}
use Rattle.number_text.proofs.write.+write_decimal.Goals as goal

pub push-requires-2 : goal.push-requires-2
push-requires-2 t c =
    let n = c.args.number in
    let front = length-append c.args.line.now (decimal (n / 10)) in
    let step = length_step n (omega arith) (omega arith) in
    omega (arith, ap length c.write_decimal.ensures)

pub returns : goal.returns
returns t c =
    let n = c.args.number in
    let step : decimal n ≡ decimal (n / 10) ++ ((48 + n % 10) ∷ []) = decimal_step n (omega arith) (omega arith) in
    rw (c.push-2.ensures, c.write_decimal.ensures, step, append_assoc) refl
