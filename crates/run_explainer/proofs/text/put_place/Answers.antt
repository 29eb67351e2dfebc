use Rattle.std.proofs.Common.{[], ◌∷◌, length, ap, ◌∙◌, arith, length-append}
use Rattle.std.specs.Fmt.{decimal}
use Rattle.number_text.proofs.Lengths.{short_decimal}
use Rattle.run_explainer.proofs.text.put_place.Goals as goal

pub write_decimal-requires : goal.write_decimal-requires
write_decimal-requires c =
    let none = ap length c.new-line.ensures in
    let digits = short_decimal c.from.result (omega arith) in
    record { room = omega (arith, none, digits) }

pub write_count-requires : goal.write_count-requires
write_count-requires c =
    let none = ap length c.new-line.ensures in
    let digits = short_decimal c.from.result (omega arith) in
    let number = ap length c.write_decimal.ensures ∙ length-append c.new-line.result (decimal c.from.result) in
    record { room = omega (arith, none, digits, number) }

pub write_count-requires-2 : goal.write_count-requires-2
write_count-requires-2 c =
    let none = ap length c.new-line.ensures in
    let digits = short_decimal c.from.result (omega arith) in
    let number = ap length c.write_decimal.ensures ∙ length-append c.new-line.result (decimal c.from.result) in
    record { room = omega (arith, none, digits, number, c.write_count.ensures.most) }

pub push-requires : goal.push-requires
push-requires c =
    let none = ap length c.new-line.ensures in
    let digits = short_decimal c.from.result (omega arith) in
    let number = ap length c.write_decimal.ensures ∙ length-append c.new-line.result (decimal c.from.result) in
    omega (arith, none, digits, number, c.write_count.ensures.most, (c.write_count-2).ensures.most)

pub push_word-requires : goal.push_word-requires
push_word-requires c =
    let none = ap length c.new-line.ensures in
    let digits = short_decimal c.from.result (omega arith) in
    let number = ap length c.write_decimal.ensures ∙ length-append c.new-line.result (decimal c.from.result) in
    let blank = ap length c.push.ensures ∙ length-append (c.write_count-2).new.line (32 ∷ []) in
    omega (arith, none, digits, number, blank, c.write_count.ensures.most, (c.write_count-2).ensures.most)
