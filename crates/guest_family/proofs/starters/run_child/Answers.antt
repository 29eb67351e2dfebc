use Rattle.std.proofs.Common.{◌≤◌, ℕ, subst, sym}
use Rattle.llsc_base.specs.Images.{Program}
use Rattle.history.specs.Starts.{starts_in}
use Rattle.guest_thread.specs.Begun.{child_start}
use Rattle.guest_family.specs.inner.UnderWay.{IsEndFrom}
use Rattle.guest_family.proofs.StarterParts.{child_has_none}
use Rattle.guest_family.proofs.starters.run_child.Goals as goal
use Rattle.a32_step.specs.Machine.{a32}

pub run_out-requires-clause-goes : goal.run_out-requires-clause-goes
run_out-requires-clause-goes g c κs outlives =
    let t = c.args.spare.thread in
    (t, child_start a32 (g.M.SharedMemory.origin c.args.mem.now).size t c.args.entry c.args.arg, c.come_in-part.ensures c.args.spare.code.program c.args.budget)

pub run_out-requires-clause-none : goal.run_out-requires-clause-none
run_out-requires-clause-none g c κs outlives u single =
    let origin = g.M.SharedMemory.origin c.args.mem.now in
    let goes = c.come_in-part.ensures c.args.spare.code.program c.args.budget in
    let above : origin.first ≤ u = subst (λ (v : ℕ). origin.first ≤ v) (sym (goes.single.only u single.has)) c.requires.number.0 in
    child_has_none origin.first origin.spare u (starts_in u (g.M.SharedMemory.seen c.come_in-part.result.pass)) above

pub returns-clause-end : goal.returns-clause-end
returns-clause-end g c =
    let origin = g.M.SharedMemory.origin c.args.mem.now in
    let t = c.args.spare.thread in
    let start = child_start a32 origin.size t c.args.entry c.args.arg in
    let goes = c.come_in-part.ensures c.args.spare.code.program c.args.budget in
    subst (λ (p : Program). IsEndFrom p origin c.args.budget t start (g.M.SharedMemory.seen c.run_out.result.pass) c.run_out.result.end) c.requires.spare.code (c.run_out.ensures.ended t start goes).end

pub returns-clause-number : goal.returns-clause-number
returns-clause-number g c =
    let t = c.args.spare.thread in
    let goes = c.come_in-part.ensures c.args.spare.code.program c.args.budget in
    (c.run_out.ensures.ended t (child_start a32 (g.M.SharedMemory.origin c.args.mem.now).size t c.args.entry c.args.arg) goes).single.has

pub returns-clause-memory : goal.returns-clause-memory
returns-clause-memory g c =
    let t = c.args.spare.thread in
    let goes = c.come_in-part.ensures c.args.spare.code.program c.args.budget in
    (c.run_out.ensures.ended t (child_start a32 (g.M.SharedMemory.origin c.args.mem.now).size t c.args.entry c.args.arg) goes).memory
