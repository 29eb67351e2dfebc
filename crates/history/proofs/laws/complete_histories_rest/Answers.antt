use Rattle.std.proofs.Math.Facts.{Fits-lt-pow}
use Rattle.history.specs.Memory.{IsMemory}
use Rattle.history.proofs.Legality.{IsComplete-rests, MayFollow-IsLegal, rests-IsComplete}
use Rattle.history.proofs.laws.complete_histories_rest.Goals as goal

pub returns : goal.returns
returns c =
    let memory : IsMemory c.args.size.now c.args.bytes.now = record { sized = c.requires.sized; whole = c.requires.whole; small = λ k. Fits-lt-pow (c.type_inv.bytes k) } in
    let follows = MayFollow-IsLegal c.args.size.now c.args.bytes.now memory c.args.history.now c.requires.legal in
    (rests-IsComplete c.args.size.now c.args.bytes.now c.args.history.now, IsComplete-rests c.args.size.now c.args.bytes.now c.args.history.now follows)
