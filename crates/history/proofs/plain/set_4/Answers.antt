-- Four bytes that are set one by one are set together.
use Rattle.std.proofs.Common.{◌≡◌, suc, ◌+◌, arith}
use Rattle.std.proofs.lemmas.List.Edits.{sets-eq}
use Rattle.std.specs.Int.{w32, to_le_bytes}
use Rattle.llsc_base.proofs.Bytes.{bytes_of-4}
use Rattle.history.proofs.plain.set_4.Goals as goal

pub returns : goal.returns
returns c =
    let one : c.args.at + 1 ≡ suc c.args.at = omega arith in
    let two : c.args.at + 2 ≡ suc (suc c.args.at) = omega arith in
    let three : c.args.at + 3 ≡ suc (suc (suc c.args.at)) = omega arith in
    rw (c.to_le_bytes-from.ensures, one, two, three, bytes_of-4 c.args.value)
    (sets-eq (to_le_bytes w32 c.args.value) c.args.bytes.now c.args.at c.requires)
