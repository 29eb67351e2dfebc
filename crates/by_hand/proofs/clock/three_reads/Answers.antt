use lib.Count.{ones}
use Rattle.std.proofs.Common.{◌≡◌, None, Some}
use Rattle.by_hand.proofs.clock.three_reads.Goals as goal

-- these numbers have no fault
pub unreachable-requires : goal.unreachable-requires
unfolding ones
unreachable-requires c =
    let fault : None ≡ Some c.in_default.field-0 = c.in_default.ensures in
    let f : ⊥ = cc in f
