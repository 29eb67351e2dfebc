-- Two bytes that are set one by one are set together.
use Rattle.std.proofs.Common.{◌≡◌, suc, ◌+◌, arith}
use Rattle.std.proofs.lemmas.List.Edits.{sets-eq}
use Rattle.std.specs.Int.{w16, to_le_bytes}
use Rattle.llsc_base.proofs.Bytes.{bytes_of-2}
use Rattle.history.proofs.plain.set_2.Goals as goal

pub returns : goal.returns
returns c =
    let one : c.args.at + 1 ≡ suc c.args.at = omega arith in
    rw (c.to_le_bytes-from.ensures, one, bytes_of-2 c.args.value)
    (sets-eq (to_le_bytes w16 c.args.value) c.args.bytes.now c.args.at c.requires)
