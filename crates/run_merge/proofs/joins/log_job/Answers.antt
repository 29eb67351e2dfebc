use Rattle.std.proofs.Common.{rules}
use Rattle.version_memory.specs.Memory.{memory_origin, pass_seen}
use Rattle.guest_thread.proofs.FewAccesses.{few_counted}
use Rattle.run_merge.proofs.joins.log_job.Goals as goal

pub returns-clause-end : goal.returns-clause-end
returns-clause-end g c = record {
  thread = search rules;
  end_on = search rules;
  spends = search rules;
  few = few_counted g.C.Core.set c.args.job.code.program (memory_origin c.args.mem.now).size c.args.budget (g.C.Core.machine c.args.job.cpu) (pass_seen c.log_thread.result.pass)
      c.log_thread.result.end c.requires.budget c.log_thread.ensures.end c.log_thread.ensures.few;
}
