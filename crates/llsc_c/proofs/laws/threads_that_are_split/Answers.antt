use Rattle.std.proofs.Common.{◌≡◌, ◌+◌, true, Some, ap}
use Rattle.version_memory.specs.Memory.{memory_origin}
use Rattle.memory_handle.specs.Handles.{handle_origin, handle_seen}
use Rattle.memory_handle.specs.declared.handles.Handle.{Handle}
use Rattle.llsc_c.specs.Threads.{IsSplit}
use Rattle.llsc_c.proofs.Same.{of_held}
use Rattle.llsc_c.proofs.laws.threads_that_are_split.Goals as goal

-- what is so of the handles of a split is so of those that the structs hold
of_these : (about : Handle → Handle → Handle → Type 0) (old new last : Handle) → (split : IsSplit (Some old) (Some new) (Some last))
    → about split.from split.to split.other → about old new last
of_these about old new last split so = of_held about old new last split.from split.to split.other split.was split.is split.last_is so

pub returns-clause-memory : goal.returns-clause-memory
returns-clause-memory c = λ old new last split.
    of_these (λ from to other. (handle_origin to ≡ handle_origin from) × (handle_origin other ≡ handle_origin from)) old new last split
    (ap memory_origin split.memory.1, ap memory_origin split.memory.0)

pub returns-clause-numbers : goal.returns-clause-numbers
returns-clause-numbers c = λ old new last split.
    of_these (λ from to other. (to.first ≡ from.first) × (to.upto ≡ other.first) × (other.first + 1 ≡ from.upto) × (other.upto ≡ from.upto)) old new last split
    (split.numbers.2, split.numbers.3, split.numbers.0, split.numbers.1)

pub returns-clause-seen : goal.returns-clause-seen
returns-clause-seen c = λ old new last split.
    of_these (λ from to other. (handle_seen to ≡ handle_seen from) × (handle_seen other ≡ handle_seen from) × (to.fresh ≡ true) × (other.fresh ≡ true)) old new last split
    (split.seen.1, split.seen.0, split.fresh.1, split.fresh.0)
