use Rattle.std.proofs.Common.{◌≡◌, ℕ, List, Option, sym, ap, subst, ◌∙◌}
use Rattle.history.specs.Operation.{load}
use Rattle.llsc_base.specs.Sizes.{Numbers}
use Rattle.shared_memory.specs.Origin.{IsLegalFrom, Origin}
use Rattle.version_memory.specs.Memory.{memory_origin}
use Rattle.memory_handle.specs.Accesses.{HasStored, Makes}
use Rattle.memory_handle.specs.Handles.{handle_origin, handle_seen}
use Rattle.memory_handle.specs.Left.{IsLeft, bytes_left}
use Rattle.memory_handle.specs.declared.handles.Handle.{Handle}
use Rattle.llsc_c.specs.Threads.{Becomes, IsOpened}
use Rattle.llsc_c.proofs.Done.{HasLoadedBack, done, loaded_back, stored_once, writes_and_reads}
use Rattle.llsc_c.proofs.Histories.{begun, got_alone, left_alone, made}
use Rattle.llsc_c.proofs.Same.{same_handle}
use Rattle.llsc_c.proofs.Writes.{once_of}
use Rattle.llsc_c.proofs.sequences.one_thread_that_stores_and_loads.Goals as goal

-- what the thread has then seen
record IsSeen (size : Numbers) (bytes : List ℕ) (addr width value got : ℕ) (loaded : Handle) : Type 0 where
  origin : handle_origin loaded ≡ made size bytes
  legal : IsLegalFrom (made size bytes) (handle_seen loaded)
  back : HasLoadedBack 0 addr width value got (handle_seen loaded)

seen : (size : Numbers) (bytes : List ℕ) (addr width value got : ℕ) (opened stored loaded : Option Handle) → IsOpened size bytes opened
    → Becomes (HasStored addr width value) opened stored → (loads : Becomes (Makes addr width (λ place. load place got)) stored loaded)
    → IsSeen size bytes addr width value got loads.to
seen size bytes addr width value got opened stored loaded is stores loads =
    let one = done (HasStored addr width value) opened stored is.handle stores is.is in
    let two = done (Makes addr width (λ place. load place got)) stored loaded stores.to loads stores.is in
    let first : stores.to.first ≡ 0 = one.alike.first ∙ is.all.0 in
    let origin : handle_origin stores.to ≡ made size bytes = ap memory_origin one.alike.memory ∙ is.origin in
    record {
      origin = ap memory_origin two.alike.memory ∙ origin;
      legal = subst (λ (o : Origin). IsLegalFrom o (handle_seen loads.to)) origin two.does.sees.legal;
      back = loaded_back 0 addr width value got stores.to loads.to first (stored_once 0 addr width value is.handle stores.to is.all.0 is.seen one.does) two.does;
    }

pub returns-clause-got : goal.returns-clause-got
returns-clause-got c = λ size bytes addr width value got opened stored loaded single is stores loads.
    let all = seen size bytes addr width value got opened stored loaded is stores loads in
    got_alone size bytes addr width value got (handle_seen loads.to) single all.legal all.back

pub returns-clause-left : goal.returns-clause-left
returns-clause-left c = λ size bytes left addr width value got opened stored loaded single small is stores loads closed.
    let all = seen size bytes addr width value got opened stored loaded is stores loads in
    let ended = subst (λ (h : Handle). IsLeft h left) (same_handle loads.to closed.handle (sym loads.is ∙ closed.was)) closed.left in
    ended.bytes_are
    ∙ ap (λ (o : Origin). bytes_left o (handle_seen loads.to)) all.origin
    ∙ left_alone size bytes addr width value (handle_seen loads.to) all.back.place single (begun size bytes opened is small) all.legal all.back.place_is
    (once_of 0 all.back.place value got _ (writes_and_reads 0 addr width value got (handle_seen loads.to) all.back))
