use Rattle.std.proofs.Math.Facts.{Fits-lt-pow}
use Rattle.history.specs.Memory.{IsMemory}
use Rattle.history.proofs.Legality.{IsLegal-MayFollow, MayFollow-IsLegal}
use Rattle.history.proofs.laws.legality_is_the_fold.Goals as goal

pub returns : goal.returns
returns c =
    let memory : IsMemory c.args.size.now c.args.bytes.now = record { sized = c.requires.sized; whole = c.requires.whole; small = λ k. Fits-lt-pow (c.type_inv.bytes k) } in
    (MayFollow-IsLegal c.args.size.now c.args.bytes.now memory c.args.history.now, IsLegal-MayFollow c.args.size.now c.args.bytes.now c.args.history.now memory)
