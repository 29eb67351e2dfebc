use Rattle.std.proofs.Common.{arith, rules}
use Rattle.a32_forms.proofs.FormWrites.{plain_at, number_at, all_written}
use Rattle.a32_forms.proofs.written.write_form.Goals as goal

pub write_sign-requires : goal.write_sign-requires
write_sign-requires c =
    let turn = plain_at _ c.args.form.now c.args.numbers.now _ c.loop-sign.sign-index c.loop-sign.at (omega arith) (search rules) c.loop-sign.invariant in
    record { room = turn.0 }

pub loop-sign-preserved-then-not-has_number : goal.loop-sign-preserved-then-not-has_number
loop-sign-preserved-then-not-has_number c =
    let turn = plain_at _ c.args.form.now c.args.numbers.now _ c.loop-sign.sign-index c.loop-sign.at (omega arith) (search rules) c.loop-sign.invariant in
    rw c.write_sign.ensures turn.1

pub write_number-requires-clause-fits : goal.write_number-requires-clause-fits
write_number-requires-clause-fits c =
    let turn = number_at _ c.args.form.now c.args.numbers.now _ c.loop-sign.sign-index c.loop-sign.at (omega arith) (search rules) c.loop-sign.invariant in
    turn.1

pub write_number-requires-clause-room : goal.write_number-requires-clause-room
write_number-requires-clause-room c =
    let turn = number_at _ c.args.form.now c.args.numbers.now _ c.loop-sign.sign-index c.loop-sign.at (omega arith) (search rules) c.loop-sign.invariant in
    turn.2

pub loop-sign-preserved : goal.loop-sign-preserved
loop-sign-preserved c =
    let turn = number_at _ c.args.form.now c.args.numbers.now _ c.loop-sign.sign-index c.loop-sign.at (omega arith) (search rules) c.loop-sign.invariant in
    rw c.write_number.ensures turn.3

pub returns : goal.returns
returns c = all_written _ c.args.form.now c.args.numbers.now _ c.loop-sign.sign-index c.loop-sign.at c.loop-sign-test.false c.loop-sign.invariant
