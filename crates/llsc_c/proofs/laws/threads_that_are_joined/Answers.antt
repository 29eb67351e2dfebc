use Rattle.std.proofs.Common.{◌≡◌, ◌≤◌, ◌<◌, ℕ, false, Some, None, ap}
use Rattle.history.specs.Parts.{entries_of}
use Rattle.shared_memory.specs.Seen.{IsFront, longer}
use Rattle.version_memory.specs.Memory.{memory_origin}
use Rattle.memory_handle.specs.Handles.{handle_origin, handle_seen}
use Rattle.memory_handle.specs.declared.handles.Handle.{Handle}
use Rattle.llsc_c.specs.Threads.{IsJoined}
use Rattle.llsc_c.proofs.Same.{of_held}
use Rattle.llsc_c.proofs.laws.threads_that_are_joined.Goals as goal

-- what is so of the handles of a join is so of those that the structs hold
of_these : (about : Handle → Handle → Handle → Type 0) (mine yours both : Handle) → (joined : IsJoined (Some mine) (Some yours) (Some both))
    → about joined.mine joined.yours joined.both → about mine yours both
of_these about mine yours both joined so = of_held about mine yours both joined.mine joined.yours joined.both joined.was joined.next_was joined.is so

pub returns-clause-memory : goal.returns-clause-memory
returns-clause-memory c = λ mine yours both joined.
    of_these (λ one other all. handle_origin all ≡ handle_origin one) mine yours both joined (ap memory_origin joined.memory)

pub returns-clause-numbers : goal.returns-clause-numbers
returns-clause-numbers c = λ mine yours both joined.
    of_these (λ one other all. (all.first ≡ one.first) × (all.upto ≡ other.upto)) mine yours both joined joined.numbers

pub returns-clause-seen : goal.returns-clause-seen
returns-clause-seen c = λ mine yours both joined.
    of_these (λ one other all. (handle_seen all ≡ longer (handle_seen one) (handle_seen other))
    × IsFront (handle_seen one) (handle_seen all) × IsFront (handle_seen other) (handle_seen all)) mine yours both joined
    (joined.seen, joined.fronts.0, joined.fronts.1)

pub returns-clause-of_mine : goal.returns-clause-of_mine
returns-clause-of_mine c = λ mine yours both thread joined.
    of_these (λ one other all. one.first ≤ thread → thread < one.upto → entries_of thread (handle_seen all) ≡ entries_of thread (handle_seen one)) mine yours both joined
    (joined.says_mine thread)

pub returns-clause-of_yours : goal.returns-clause-of_yours
returns-clause-of_yours c = λ mine yours both thread joined.
    of_these (λ one other all. other.first ≤ thread → thread < other.upto → entries_of thread (handle_seen all) ≡ entries_of thread (handle_seen other)) mine yours both joined
    (joined.says_yours thread)

pub returns-clause-used : goal.returns-clause-used
returns-clause-used c = λ mine yours both joined. of_these (λ one other all. all.fresh ≡ false) mine yours both joined joined.used

pub returns-clause-with_none : goal.returns-clause-with_none
returns-clause-with_none c = λ old new joined. let wrong : None ≡ Some joined.yours = joined.next_was in cc
