-- Each log, computed.
use Rattle.std.proofs.Common.{refl}
use Rattle.llsc_base.specs.Memory.{class_of, row_of}
use Rattle.run_merge.proofs.worked.logs_of_a_thread.Goals as goal

pub returns : goal.returns
unfolding class_of row_of
returns c = record { stored = refl; failed = refl; of_another = refl; in_another_class = refl }
