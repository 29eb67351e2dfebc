use Rattle.std.proofs.Common.{◌≡◌, ◌*◌, ◌/◌, arith, length, ◌∙◌}
use Rattle.std.proofs.Math.Facts.{Fits-lt-pow}
use Rattle.history.specs.Monitor.{at_rest_by, monitor_after}
use Rattle.history.specs.Standing.{standing_after, standing_of}
use Rattle.history.proofs.Appends.{IsArmLegal-from_accesses_of, monitor_after-accesses_of}
use Rattle.history.proofs.Marks.{IsAsLarge-monitor_after}
use Rattle.history.proofs.CellLaws.{CellsAre-standing, value_at-CellsAre}
use Rattle.history.proofs.laws.memory_is_the_fold.Goals as goal

pub returns-clause-cells : goal.returns-clause-cells
returns-clause-cells c = λ size arm_legal.
    let start = at_rest_by size.granule c.args.bytes.now c.args.threads in
    let legal = IsArmLegal-from_accesses_of start c.args.history.now arm_legal in
    let are = CellsAre-standing size c.args.bytes.now c.args.threads c.args.history.now (λ k. Fits-lt-pow (c.type_inv.bytes k)) legal in
    let large = IsAsLarge-monitor_after start c.args.history.now legal in
    λ i inside. rw (monitor_after-accesses_of start c.args.history.now) (are.cells i (omega (arith, large.bytes)))

pub returns-clause-values : goal.returns-clause-values
returns-clause-values c = λ size arm_legal.
    let start = at_rest_by size.granule c.args.bytes.now c.args.threads in
    let legal = IsArmLegal-from_accesses_of start c.args.history.now arm_legal in
    let are = CellsAre-standing size c.args.bytes.now c.args.threads c.args.history.now (λ k. Fits-lt-pow (c.type_inv.bytes k)) legal in
    let large = IsAsLarge-monitor_after start c.args.history.now legal in
    let whole : length c.args.bytes.now ≡ 8 * (length c.args.bytes.now / 8) = omega (arith, c.requires) in
    λ aligned inside. rw (monitor_after-accesses_of start c.args.history.now)
    (value_at-CellsAre (monitor_after start c.args.history.now) (standing_after size (standing_of c.args.bytes.now) c.args.history.now)
    c.args.place (length c.args.bytes.now / 8) are (large.bytes ∙ whole) aligned (omega (arith, large.bytes)))
