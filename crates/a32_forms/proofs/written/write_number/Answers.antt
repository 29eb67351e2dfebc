use Rattle.std.proofs.Common.{◌≡◌, ◌++◌, codes, length, refl, ap, arith, length-append}
use Rattle.number_text.specs.Hexadecimal.{word_text}
use Rattle.number_text.proofs.Lengths.{word_length}
use Rattle.a32_forms.specs.Written.{number_text}
use Rattle.a32_forms.proofs.written.write_number.Goals as goal

pub write_word-requires : goal.write_word-requires
unfolding number_text
write_word-requires c =
    let text : number_text c.args.sign c.args.number ≡ codes "0x" ++ word_text c.args.number = rw c.in-120.is refl in
    let line = length-append c.args.line.now (codes "0x") in
    record { room = omega (arith, ap length text, ap length c.write_text-in-120.ensures, line, word_length c.args.number) }
