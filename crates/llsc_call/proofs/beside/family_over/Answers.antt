use Rattle.std.proofs.Common.{◌≤◌, rules, arith}
use Rattle.llsc_call.proofs.Closed.{closed_cells, ran_from, sums}
use Rattle.llsc_call.proofs.beside.family_over.Goals as goal

pub returns : goal.returns
returns g c =
    let origin = g.M.SharedMemory.origin c.args.memory in
    let ends = c.run_family-pass.result.ends.items in
    let seen = g.M.SharedMemory.seen c.run_family-pass.result.pass in
    let history = g.M.SharedMemory.history c.close-rows.result.1 in
    let closed = c.close-rows.ensures in
    let len = c.run_family-pass.result.ends.ok.0 in
    let many = c.run_family-pass.ensures.many in
    let few : origin.size.threads ≤ 16 = search rules in
    ran_from c.args.image.now origin.size c.args.budget origin.first origin.spare origin.bytes history seen ends c.close-rows.result.0
    closed.story c.requires.bytes closed.legal.legal closed.complete closed.legal.born c.run_family-pass.ensures.ends (record { few = closed.few c.requires.spends; steady = closed.steady c.requires.steady })
    (sums ends c.run_family-pass.ensures.few (omega (arith, len, many, few)))
    (closed_cells c.args.image.now origin.size origin.bytes history seen c.close-rows.result.0 closed.story c.requires.bytes closed.count closed.cells)
