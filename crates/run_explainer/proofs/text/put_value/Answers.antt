use Rattle.std.proofs.Common.{◌≡◌, ◌-◌, ◌*◌, ◌++◌, drop, length, ap, ◌∙◌, arith, length-append, append_assoc}
use Rattle.llsc_base.specs.Memory.{size_bytes}
use Rattle.number_text.specs.Hexadecimal.{long_text}
use Rattle.run_explainer.specs.Text.{value_text}
use Rattle.run_explainer.proofs.Values.{dropped_at_most, long_length, size_at_most}
use Rattle.run_explainer.proofs.text.put_value.Goals as goal

pub last_of-requires : goal.last_of-requires
last_of-requires c =
    let digits : length c.bytes.result.now ≡ 16 = ap length (c.bytes.ensures.text ∙ c.write_long.ensures) ∙ ap (λ l. length (l ++ long_text c.args.value)) c.new-digits.ensures ∙ long_length c.args.value in
    omega (arith, digits, size_at_most c.args.size, (c.bytes-2).ensures)

pub returns : goal.returns
returns c =
    let digits : c.bytes.result.now ≡ long_text c.args.value = c.bytes.ensures.text ∙ c.write_long.ensures ∙ ap (λ l. l ++ long_text c.args.value) c.new-digits.ensures in
    let sixteen : length c.bytes.result.now ≡ 16 = ap length digits ∙ long_length c.args.value in
    let value : c.last_of.result.now ≡ value_text c.args.size c.args.value =
    c.last_of.ensures ∙ ap (λ n. drop (n - 2 * (c.bytes-2).result) c.bytes.result.now) sixteen ∙ ap (λ n. drop (16 - 2 * n) c.bytes.result.now) (c.bytes-2).ensures
    ∙ ap (drop (16 - 2 * size_bytes c.args.size)) digits in
    let is : (c.push-2).new.self ≡ c.args.page.now ++ (c.args.name.now ++ value_text c.args.size c.args.value) =
    (c.push-2).ensures ∙ ap (λ p. p ++ c.last_of.result.now) c.push.ensures ∙ ap (λ v. (c.args.page.now ++ c.args.name.now) ++ v) value
    ∙ append_assoc c.args.page.now c.args.name.now (value_text c.args.size c.args.value) in
    let long = ap length is ∙ length-append c.args.page.now (c.args.name.now ++ value_text c.args.size c.args.value) in
    let both = length-append c.args.name.now (value_text c.args.size c.args.value) in
    record { text_is = is; at_most = omega (arith, long, both, dropped_at_most (16 - 2 * size_bytes c.args.size) (long_text c.args.value), long_length c.args.value) }
