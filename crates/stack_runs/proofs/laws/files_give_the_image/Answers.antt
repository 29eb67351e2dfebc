use Rattle.stack_runs.proofs.WrittenFile.{filed}
use Rattle.stack_runs.proofs.laws.files_give_the_image.Goals as goal

pub returns : goal.returns
returns c = filed
