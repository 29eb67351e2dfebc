-- Two threads of a memory, from their split to their join.
use Rattle.std.proofs.Common.{◌≡◌, ◌+◌, ℕ, List, [], Option, sym, ap, ◌∙◌, arith}
use Rattle.history.specs.Parts.{entries_of}
use Rattle.llsc_base.specs.Sizes.{Numbers}
use Rattle.version_memory.specs.Memory.{memory_origin}
use Rattle.memory_handle.specs.Handles.{AreAlike, SaysAllOfThreads, handle_origin, handle_seen}
use Rattle.memory_handle.specs.declared.handles.Handle.{Handle}
use Rattle.llsc_c.specs.Threads.{IsOpened, IsSplit}
use Rattle.llsc_c.proofs.Histories.{made}
use Rattle.llsc_c.proofs.Same.{same_handle}

-- a handle has one thread of a memory of these numbers and bytes
pub record IsOf (size : Numbers) (bytes : List ℕ) (thread : ℕ) (handle : Handle) : Type 0 where
  pub origin : handle_origin handle ≡ made size bytes
  pub first : handle.first ≡ thread
  pub upto : handle.upto ≡ thread + 1

-- two handles have one each, and have seen nothing
pub record AreHalves (size : Numbers) (bytes : List ℕ) (one other : Handle) : Type 0 where
  pub mine : IsOf size bytes 0 one
  pub yours : IsOf size bytes 1 other
  pub mine_seen : handle_seen one ≡ []
  pub yours_seen : handle_seen other ≡ []

pub halves : (size : Numbers) (bytes : List ℕ) (opened first last : Option Handle) → size.threads ≡ 2 → IsOpened size bytes opened
    → (split : IsSplit opened first last) → AreHalves size bytes split.to split.other
halves size bytes opened first last two is split =
    let same : split.from ≡ is.handle = same_handle is.handle split.from (sym is.is ∙ split.was) in
    let origin : handle_origin split.from ≡ made size bytes = ap handle_origin same ∙ is.origin in
    let none : handle_seen split.from ≡ [] = ap handle_seen same ∙ is.seen in
    let begins : split.from.first ≡ 0 = ap (λ (h : Handle). h.first) same ∙ is.all.0 in
    let ends : split.from.upto ≡ 2 = ap (λ (h : Handle). h.upto) same ∙ is.all.1 ∙ two in
    let next = split.numbers.0 in
    let one : split.other.first ≡ 1 = omega (arith, next, ends) in
    record {
      mine = record { origin = ap memory_origin split.memory.1 ∙ origin; first = split.numbers.2 ∙ begins; upto = split.numbers.3 ∙ one };
      yours = record { origin = ap memory_origin split.memory.0 ∙ origin; first = one; upto = split.numbers.1 ∙ ends };
      mine_seen = split.seen.1 ∙ none;
      yours_seen = split.seen.0 ∙ none;
    }

-- an access leaves it so
pub still_of : (size : Numbers) (bytes : List ℕ) (thread : ℕ) (from to : Handle) → AreAlike from to → IsOf size bytes thread from → IsOf size bytes thread to
still_of size bytes thread from to alike is = record {
  origin = ap memory_origin alike.memory ∙ is.origin;
  first = alike.first ∙ is.first;
  upto = alike.upto ∙ is.upto;
}

-- a join has all that its thread has done
pub said_of : (size : Numbers) (bytes : List ℕ) (thread : ℕ) (both part : Handle) → IsOf size bytes thread part → SaysAllOfThreads both part
    → entries_of thread (handle_seen both) ≡ entries_of thread (handle_seen part)
said_of size bytes thread both part is says = let first = is.first in let upto = is.upto in says thread (omega (arith, first)) (omega (arith, upto))
