use Rattle.memory_handle.proofs.laws.stores_that_memory_refuses.Goals as goal

pub returns-clause-sound : goal.returns-clause-sound
returns-clause-sound c = λ handle misuse refused. refused.sound

pub returns-clause-why : goal.returns-clause-why
returns-clause-why c = λ handle misuse refused. refused.why
