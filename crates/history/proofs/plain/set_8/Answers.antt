-- Eight bytes that are set one by one are set together.
use Rattle.std.proofs.Common.{◌≡◌, suc, ◌+◌, arith}
use Rattle.std.proofs.lemmas.List.Edits.{sets-eq}
use Rattle.std.specs.Int.{w64, to_le_bytes}
use Rattle.llsc_base.proofs.Bytes.{bytes_of-8}
use Rattle.history.proofs.plain.set_8.Goals as goal

pub returns : goal.returns
returns c =
    let one : c.args.at + 1 ≡ suc c.args.at = omega arith in
    let two : c.args.at + 2 ≡ suc (suc c.args.at) = omega arith in
    let three : c.args.at + 3 ≡ suc (suc (suc c.args.at)) = omega arith in
    let four : c.args.at + 4 ≡ suc (suc (suc (suc c.args.at))) = omega arith in
    let five : c.args.at + 5 ≡ suc (suc (suc (suc (suc c.args.at)))) = omega arith in
    let six : c.args.at + 6 ≡ suc (suc (suc (suc (suc (suc c.args.at))))) = omega arith in
    let seven : c.args.at + 7 ≡ suc (suc (suc (suc (suc (suc (suc c.args.at)))))) = omega arith in
    rw (c.to_le_bytes-from.ensures, one, two, three, four, five, six, seven, bytes_of-8 c.args.value)
    (sets-eq (to_le_bytes w64 c.args.value) c.args.bytes.now c.args.at c.requires)
