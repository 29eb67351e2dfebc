use Rattle.run_merge.proofs.AllLogged.{seen_split}
use Rattle.run_merge.proofs.joins.take_job.Goals as goal

pub returns-clause-none : goal.returns-clause-none
returns-clause-none g c = seen_split c.pop_job.result c.args.jobs.now.items c.pop_job.new.jobs.items c.pop_job.ensures.items c.requires.none
