use Rattle.shared_memory.proofs.HeldMarks.{only-one}
use Rattle.shared_memory.proofs.numbers.only_mark.Goals as goal

pub returns : goal.returns
returns c = only-one 16 c.args.t c.requires
