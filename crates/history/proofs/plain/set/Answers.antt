-- One byte that is set is its value, which is below 256.
use Rattle.std.proofs.Common.{◌≡◌, ◌+◌, ◌%◌, ◌^◌, ◌<◌, ◌≤◌, [], ◌∷◌, arith, length}
use Rattle.std.proofs.lemmas.List.Edits.{sets-eq}
use Rattle.llsc_base.proofs.Bytes.{bytes_of-1}
use Rattle.history.proofs.plain.set.Goals as goal

pub returns-in-B1 : goal.returns-in-B1
returns-in-B1 c =
    let value = c.args.value in
    let small : value < 256 ^ 1 = rw c.in-B1.is at c.requires.fits in
    let inside : c.args.place.addr + 1 ≤ length c.args.bytes.now = rw c.in-B1.is at c.requires.inside in
    let byte : value % 256 ≡ value = omega (arith, small) in
    rw (c.in-B1.is, bytes_of-1 value, byte) (sets-eq (value ∷ []) c.args.bytes.now c.args.place.addr inside)
