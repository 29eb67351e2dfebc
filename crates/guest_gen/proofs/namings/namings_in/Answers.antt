use Rattle.std.proofs.Common.{◌≡◌, ℕ, ◌-◌, arith, ap}
use Rattle.guest_gen.specs.Namings.{namings_in}
use Rattle.guest_gen.proofs.Loops.{namings_none}
use Rattle.guest_gen.proofs.namings.namings_in.Goals as goal

pub returns-clause-value : goal.returns-clause-value
returns-clause-value c =
    let over : c.args.rounds - c.loop-round.round ≡ 0 = omega (arith, c.loop-round-test.false) in
    let none = ap (λ (n : ℕ). namings_in c.loop-round.x n c.args.index) over in
    omega (arith, none, namings_none c.loop-round.x c.args.index, c.loop-round.invariant.all)
