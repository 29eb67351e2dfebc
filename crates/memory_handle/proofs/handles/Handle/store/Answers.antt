use Rattle.memory_handle.proofs.Parted.{not-several}
use Rattle.memory_handle.proofs.handles.Handle.store.Goals as goal

pub invariant_of-self-clause-numbers : goal.invariant_of-self-clause-numbers
invariant_of-self-clause-numbers c = rw c.store_now.ensures.numbers c.args.self.now.numbers

pub invariant_of-self-clause-unused : goal.invariant_of-self-clause-unused
invariant_of-self-clause-unused c several = absurd (not-several c.args.self.now.numbers c.in_ok-place.ensures.single several)
