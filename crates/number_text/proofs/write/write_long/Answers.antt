use Rattle.std.proofs.Common.{ℕ, ◌/◌, ◌^◌, arith, ap, length, length-append}
use Rattle.number_text.specs.Hexadecimal.{word_text}
use Rattle.number_text.proofs.Lengths.{word_length}
use Rattle.number_text.proofs.write.write_long.Goals as goal

pub write_word-requires-2 : goal.write_word-requires-2
write_word-requires-2 c =
    let high : ℕ = c.args.long / 2 ^ 32 in
    record { room = omega (arith, c.requires.room, ap length c.write_word.ensures, length-append c.args.line.now (word_text high), word_length high) }
