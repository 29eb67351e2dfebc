use Rattle.std.proofs.Common.{◌≡◌, ℕ, List, Option, Some, sym, ap, subst, ◌∙◌}
use Rattle.history.specs.Operation.{load}
use Rattle.llsc_base.specs.Sizes.{Numbers}
use Rattle.shared_memory.specs.Origin.{IsLegalFrom, Origin}
use Rattle.shared_memory.specs.Seen.{IsFront}
use Rattle.version_memory.specs.Memory.{memory_origin}
use Rattle.memory_handle.specs.Accesses.{HasStored, Makes}
use Rattle.memory_handle.specs.Handles.{SaysAllOfThreads, handle_origin, handle_seen}
use Rattle.memory_handle.specs.Left.{IsLeft, bytes_left}
use Rattle.memory_handle.specs.declared.handles.Handle.{Handle}
use Rattle.llsc_c.specs.Threads.{IsJoined}
use Rattle.llsc_c.proofs.Done.{HasStoredOnce, done, loaded_back, said_once, stored_once}
use Rattle.llsc_c.proofs.Halves.{IsOf, halves, said_of, still_of}
use Rattle.llsc_c.proofs.Histories.{begun, got_beside, left_together, made}
use Rattle.llsc_c.proofs.Same.{same_handle}
use Rattle.llsc_c.proofs.sequences.two_threads_that_store_apart.Goals as goal

-- the store of a thread, in the history of the join
first_says : (size : Numbers) (bytes : List ℕ) (addr width value : ℕ) (first last both : Option Handle) (to : Handle) → first ≡ Some to → IsOf size bytes 0 to
    → HasStoredOnce 0 addr width value (handle_seen to) → (joined : IsJoined first last both) → HasStoredOnce 0 addr width value (handle_seen joined.both)
first_says size bytes addr width value first last both to held is once joined =
    let says = subst (λ (h : Handle). SaysAllOfThreads joined.both h) (same_handle to joined.mine (sym held ∙ joined.was)) joined.says_mine in
    said_once 0 addr width value (handle_seen to) (handle_seen joined.both) (said_of size bytes 0 joined.both to is says) once

last_says : (size : Numbers) (bytes : List ℕ) (addr width value : ℕ) (first last both : Option Handle) (to : Handle) → last ≡ Some to → IsOf size bytes 1 to
    → HasStoredOnce 1 addr width value (handle_seen to) → (joined : IsJoined first last both) → HasStoredOnce 1 addr width value (handle_seen joined.both)
last_says size bytes addr width value first last both to held is once joined =
    let says = subst (λ (h : Handle). SaysAllOfThreads joined.both h) (same_handle to joined.yours (sym held ∙ joined.next_was)) joined.says_yours in
    said_once 1 addr width value (handle_seen to) (handle_seen joined.both) (said_of size bytes 1 joined.both to is says) once

pub returns-clause-left : goal.returns-clause-left
returns-clause-left c = λ size bytes left addr width value other_addr other_width other_value opened first last first_stored last_stored both two small is split stores others apart joined closed.
    let new = halves size bytes opened first last two is split in
    let one = done (HasStored addr width value) first first_stored split.to stores split.is in
    let other = done (HasStored other_addr other_width other_value) last last_stored split.other others split.last_is in
    let mine_of = still_of size bytes 0 split.to stores.to one.alike new.mine in
    let yours_of = still_of size bytes 1 split.other others.to other.alike new.yours in
    let mine = first_says size bytes addr width value first_stored last_stored both stores.to stores.is mine_of
    (stored_once 0 addr width value split.to stores.to new.mine.first new.mine_seen one.does) joined in
    let yours = last_says size bytes other_addr other_width other_value first_stored last_stored both others.to others.is yours_of
    (stored_once 1 other_addr other_width other_value split.other others.to new.yours.first new.yours_seen other.does) joined in
    let ended = subst (λ (h : Handle). IsLeft h left) (same_handle joined.both closed.handle (sym joined.is ∙ closed.was)) closed.left in
    let origin : handle_origin joined.both ≡ made size bytes =
    ap memory_origin joined.memory ∙ ap handle_origin (same_handle stores.to joined.mine (sym stores.is ∙ joined.was)) ∙ mine_of.origin in
    let legal = subst (λ (o : Origin). IsLegalFrom o (handle_seen joined.both)) origin ended.over.legal in
    ended.bytes_are
    ∙ ap (λ (o : Origin). bytes_left o (handle_seen joined.both)) origin
    ∙ left_together size bytes addr width value other_addr other_width other_value (handle_seen joined.both) two (begun size bytes opened is small) legal mine yours apart

pub returns-clause-got : goal.returns-clause-got
returns-clause-got c = λ size bytes addr width value got other_addr other_width other_value opened first last first_stored first_loaded last_stored both two is split stores loads others apart joined.
    let new = halves size bytes opened first last two is split in
    let one = done (HasStored addr width value) first first_stored split.to stores split.is in
    let again = done (Makes addr width (λ place. load place got)) first_stored first_loaded stores.to loads stores.is in
    let other = done (HasStored other_addr other_width other_value) last last_stored split.other others split.last_is in
    let mine_of = still_of size bytes 0 split.to stores.to one.alike new.mine in
    let yours_of = still_of size bytes 1 split.other others.to other.alike new.yours in
    let back = loaded_back 0 addr width value got stores.to loads.to mine_of.first (stored_once 0 addr width value split.to stores.to new.mine.first new.mine_seen one.does) again.does in
    let yours = last_says size bytes other_addr other_width other_value first_loaded last_stored both others.to others.is yours_of
    (stored_once 1 other_addr other_width other_value split.other others.to new.yours.first new.yours_seen other.does) joined in
    let front = subst (λ (h : Handle). IsFront (handle_seen h) (handle_seen joined.both)) (same_handle loads.to joined.mine (sym loads.is ∙ joined.was)) joined.fronts.0 in
    let legal = subst (λ (o : Origin). IsLegalFrom o (handle_seen loads.to)) mine_of.origin again.does.sees.legal in
    got_beside size bytes addr width value got other_addr other_width other_value (handle_seen loads.to) (handle_seen joined.both) two legal back front yours apart
