use Rattle.version_memory.specs.Memory.{pass_seen}
use Rattle.run_merge.proofs.Filled.{merge_length}
use Rattle.run_merge.proofs.merges.merge.Goals as goal

pub returns-clause-count : goal.returns-clause-count
returns-clause-count c =
    let run = c.args.run.now in
    merge_length run.size (pass_seen run.pass) c.take_all.new.self.out.items c.in-Ok-take_all.ensures.merge run.kept.known
