use Rattle.memory_handle.proofs.laws.entries_that_are_added.Goals as goal

pub returns : goal.returns
returns c = λ entries old new adds. (adds.added, adds.longer, adds.mine, adds.legal)
