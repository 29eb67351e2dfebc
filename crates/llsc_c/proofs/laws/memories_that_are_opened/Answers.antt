use Rattle.std.proofs.Common.{◌≡◌, ℕ, true, List, [], Some, None, ap, subst}
use Rattle.llsc_base.specs.Sizes.{Numbers}
use Rattle.shared_memory.specs.Origin.{Origin}
use Rattle.memory_handle.specs.Handles.{handle_origin, handle_seen}
use Rattle.memory_handle.specs.declared.handles.Handle.{Handle}
use Rattle.llsc_c.specs.Threads.{IsOpened}
use Rattle.llsc_c.proofs.Same.{same_handle}
use Rattle.llsc_c.proofs.laws.memories_that_are_opened.Goals as goal

abbrev made : Numbers → List ℕ → Origin
made size bytes = record { size = size; first = size.threads; spare = 0; bytes = bytes; spends = true; steady = true }

-- what was made is of the handle that the struct holds
origin_of : (size : Numbers) (bytes : List ℕ) (handle : Handle) → IsOpened size bytes (Some handle) → handle_origin handle ≡ made size bytes
origin_of size bytes handle opened = subst (λ h. handle_origin h ≡ made size bytes) (same_handle handle opened.handle opened.is) opened.origin

pub returns-clause-numbers : goal.returns-clause-numbers
returns-clause-numbers c = λ size bytes handle opened. ap (λ (o : Origin). o.size) (origin_of size bytes handle opened)

pub returns-clause-memory : goal.returns-clause-memory
returns-clause-memory c = λ size bytes handle opened. ap (λ (o : Origin). o.bytes) (origin_of size bytes handle opened)

pub returns-clause-begin : goal.returns-clause-begin
returns-clause-begin c = λ size bytes handle opened.
    let is = origin_of size bytes handle opened in (ap (λ (o : Origin). o.first) is, ap (λ (o : Origin). o.spare) is)

pub returns-clause-kind : goal.returns-clause-kind
returns-clause-kind c = λ size bytes handle opened.
    let is = origin_of size bytes handle opened in (ap (λ (o : Origin). o.spends) is, ap (λ (o : Origin). o.steady) is)

pub returns-clause-all : goal.returns-clause-all
returns-clause-all c = λ size bytes handle opened.
    subst (λ (h : Handle). (h.first ≡ 0) × (h.upto ≡ size.threads) × (handle_seen h ≡ []) × (h.fresh ≡ true)) (same_handle handle opened.handle opened.is)
    (opened.all.0, opened.all.1, opened.seen, opened.fresh)

pub returns-clause-range : goal.returns-clause-range
returns-clause-range c = λ size bytes handle opened. (opened.range, opened.sized)

pub returns-clause-none : goal.returns-clause-none
returns-clause-none c = λ size bytes opened. let wrong : None ≡ Some opened.handle = opened.is in cc
