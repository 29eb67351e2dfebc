use Rattle.std.proofs.Common.{rules}
use Rattle.guest_thread.proofs.FewAccesses.{few_counted}
use Rattle.guest_thread.proofs.runs.run_job.Goals as goal

pub returns-clause-end : goal.returns-clause-end
returns-clause-end g c = record {
  thread = search rules;
  end_on = search rules;
  spends = search rules;
  few = few_counted g.C.Core.set c.args.job.code.program (g.M.SharedMemory.origin c.args.mem.now).size c.args.budget (g.C.Core.machine c.args.job.cpu) (g.M.SharedMemory.seen c.run_thread.result.pass)
      c.run_thread.result.end c.requires.budget c.run_thread.ensures.end c.run_thread.ensures.few;
}
