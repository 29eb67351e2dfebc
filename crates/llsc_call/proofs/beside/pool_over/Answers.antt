use Rattle.std.proofs.Common.{◌≡◌, ◌≤◌, length, rules, sym, subst}
use Rattle.a32_step.specs.Machine.{a32}
use Rattle.llsc_call.proofs.Closed.{closed_cells, ran, sums}
use Rattle.llsc_call.proofs.beside.pool_over.Goals as goal

pub returns : goal.returns
returns g c =
    let origin = g.M.SharedMemory.origin c.args.memory in
    let ends = c.run_pool-pass.result.ends.items in
    let seen = g.M.SharedMemory.seen c.run_pool-pass.result.pass in
    let history = g.M.SharedMemory.history c.close-rows.result.1 in
    let closed = c.close-rows.ensures in
    let many : length ends ≡ origin.size.threads = c.run_pool-pass.ensures.ends.many in
    let few : origin.size.threads ≤ 16 = search rules in
    ran a32 c.args.image.now origin.size c.args.budget origin.first origin.spare origin.bytes history seen ends c.close-rows.result.0
    closed.story c.requires.bytes c.requires.first c.requires.spare closed.legal.legal closed.complete closed.legal.born c.run_pool-pass.ensures.ends (record { few = closed.few c.requires.spends; steady = closed.steady c.requires.steady })
    (sums ends c.run_pool-pass.ensures.few (subst (λ n. n ≤ 16) (sym many) few))
    (closed_cells c.args.image.now origin.size origin.bytes history seen c.close-rows.result.0 closed.story c.requires.bytes closed.count closed.cells)
